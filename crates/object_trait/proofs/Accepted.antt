-- What was checked is covered.
use Rattle.type_table.specs.declared.kind.Kind.{Kind}
use Rattle.type_table.specs.declared.kind.Kind.TheVariants.{Undo, Intentions, Escrow}
use Rattle.declared_types.specs.declared.type_file.TypeFile.{TypeFile}
use Rattle.table_checker.specs.Checked.{Checked}
use Rattle.table_checker.specs.Laws.{CoversType, CoversTypeStrongly, YesCovers, StrongYesCovers}
use Rattle.object_trait.specs.Object.{CoversBy, CoversStronglyBy, object_of}
use Rattle.object_trait.specs.Laws.{CheckedIsCovered}

-- of a kind
abbrev of : Kind → TypeFile → Checked
of kind file = record { kind = kind; file = file }

covers_of : (k : Kind) (file : TypeFile) → CoversType k file → CoversBy k (object_of (of k file))
covers_of Undo file h = h
covers_of Intentions file h = h
covers_of Escrow file h = h

covers_strongly_of : (k : Kind) (file : TypeFile) → CoversTypeStrongly k file → CoversStronglyBy k (object_of (of k file))
covers_strongly_of Undo file h = h
covers_strongly_of Intentions file h = h
covers_strongly_of Escrow file h = h

pub checked-covered : YesCovers → StrongYesCovers → CheckedIsCovered
checked-covered accepted strong = λ c checked. (covers_of c.kind c.file (accepted c checked), λ more. covers_strongly_of c.kind c.file (strong c checked more))
