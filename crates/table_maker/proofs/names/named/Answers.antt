use Rattle.std.proofs.Common.{◌≡◌, true}
use Rattle.table_maker.proofs.NameBytes.{is_name-bytes}
use Rattle.type_table.specs.Name.{is_name}
use Rattle.table_maker.proofs.names.named.Goals as goal

pub unreachable-requires : goal.unreachable-requires
unreachable-requires c =
    let name : is_name c.args.bytes.now ≡ true = is_name-bytes c.args.bytes.now c.requires.bytes c.requires.some c.requires.short in
    let none = c.in-None.ensures in
    let e = rw name at c.from_bytes.ensures in
    cc

pub returns : goal.returns
returns c =
    let name : is_name c.args.bytes.now ≡ true = is_name-bytes c.args.bytes.now c.requires.bytes c.requires.some c.requires.short in
    let e = rw name at c.from_bytes.ensures in
    cc
