-- Without a GOT there are no slots: a formula with a slot speaks of the GOT.
use Rattle.std.proofs.Common.{◌≡◌, false, List, [], ◌∷◌, refl, sym, ◌∙◌, ap}
use Rattle.std.specs.Prelude.{Option, Some, None, option_map}
use Rattle.std.specs.List.{cons_option, filter_map, list_any}
use Rattle.std.specs.Option.{option_and_then, option_map_or}
use Rattle.std.proofs.lemmas.Bool.{false≢true, or_parts}
use Rattle.elf_model.specs.Link.Loading.{LoadedObject}
use Rattle.elf_model.specs.Link.Relocation.{Formula, S+A, S+A-P, S+A-GOT, G+A, G+GOT+A-P, GOT+A-P, Z+A, T+A, GT+GOT+A-P, Kind, Relocation, relocation_kind, relocations}
use Rattle.elf_model.specs.Link.Slots.{asks_for_got, each_once, has_got, names_got, request_of, slot_kind_of, slots, speaks_of_got, target_of}

no_slot : (f : Formula) → speaks_of_got f ≡ false → slot_kind_of f ≡ None
no_slot S+A quiet = refl
no_slot S+A-P quiet = refl
no_slot S+A-GOT quiet = refl
no_slot G+A quiet = absurd (false≢true (sym quiet))
no_slot G+GOT+A-P quiet = absurd (false≢true (sym quiet))
no_slot GOT+A-P quiet = refl
no_slot Z+A quiet = refl
no_slot T+A quiet = refl
no_slot GT+GOT+A-P quiet = absurd (false≢true (sym quiet))

no_request : (objects : List LoadedObject) (r : Relocation) → asks_for_got objects r ≡ false → request_of r ≡ None
no_request objects r quiet =
    ap (option_map (λ kind. record { kind = kind; target = target_of r.symbol }))
    (by (relocation_kind r) (or_parts (option_map_or (λ k. speaks_of_got k.formula) (relocation_kind r) false) (names_got objects r.symbol) quiet).0)
  where
    by : (o : Option Kind) → option_map_or (λ k. speaks_of_got k.formula) o false ≡ false → option_and_then (λ k. slot_kind_of k.formula) o ≡ None
    by None e = refl
    by (Some k) e = no_slot k.formula e

no_requests : (objects : List LoadedObject) (rs : List Relocation) → list_any (asks_for_got objects) rs ≡ false → filter_map request_of rs ≡ []
no_requests objects [] quiet = refl
no_requests objects (r ∷ rs) quiet =
    let both = or_parts (asks_for_got objects r) (list_any (asks_for_got objects) rs) quiet in
    ap (λ o. cons_option o (filter_map request_of rs)) (no_request objects r both.0) ∙ no_requests objects rs both.1

pub no_slots : (objects : List LoadedObject) → has_got objects ≡ false → slots objects ≡ []
no_slots objects none = ap each_once (no_requests objects (relocations objects) none)
