-- A store that begins anew.
use Rattle.std.specs.Prelude.{◌≡◌, ℕ, List, Option, Some}
use Rattle.object_trait.specs.Meaning.{Meaning}
use Rattle.store_laws.specs.Stored.{Stored, types_of}
use Rattle.store.specs.Renews.{Extends, RefusesExtend}
use Rattle.store.specs.CarriesAll.{RenewsAll, StaysBehind}
use Rattle.store.specs.declared.refusals.ExtendRefusal.{ExtendRefusal}
use Rattle.store.specs.declared.refusals.RenewRefusal.{RenewRefusal}
use Rattle.library_calls.specs.Codes.{number, extend_code, renew_code}
use Rattle.library_calls.specs.Holding.{store_at}
use Rattle.library_calls.specs.declared.code.Code.TheVariants.{Done}
use Rattle.library_calls.specs.declared.held.Held.{Held}

-- it went over into one that begins anew, with all that is open; or the code of the refusal and the store as it was
pub data IsRenewal (s : Stored) (n : ℕ) (new : Option Held) : Type 0 where
  renewed : (t : Stored) → n ≡ number Done → RenewsAll s t → store_at new ≡ Some t → IsRenewal s n new
  not_renewed : (why : RenewRefusal) → n ≡ number (renew_code why) → StaysBehind s why → store_at new ≡ Some s → IsRenewal s n new

-- it began anew at the states that it kept, with these objects after the others, or the code of the refusal and the store as it was
pub data IsExtension (s : Stored) (ms : List Meaning) (n : ℕ) (new : Option Held) : Type 0 where
  extended : (t : Stored) → n ≡ number Done → Extends s (types_of ms) t → store_at new ≡ Some t → IsExtension s ms n new
  not_extended : (why : ExtendRefusal) → n ≡ number (extend_code why) → RefusesExtend s ms why → store_at new ≡ Some s → IsExtension s ms n new
