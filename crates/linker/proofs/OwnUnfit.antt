-- The own layout is a layout: a value that fits in none doesn't fit there, and one that is the same in every layout and
-- doesn't fit there fits in none.
use Rattle.std.proofs.Common.{◌≡◌, ℕ, List, Some, refl}
use Rattle.elf_model.specs.Link.Loading.{LoadedObject}
use Rattle.elf_model.specs.Own.OwnLayout.{own_where}
use Rattle.elf_model.specs.Link.Placement.{Where}
use Rattle.elf_model.specs.Link.Relocation.{Kind, Relocation, definition_of, relocation_kind}
use Rattle.elf_model.specs.Link.RelocationValues.{Fits}
use Rattle.own_link.proofs.OwnLayouts.{own_has_got, own_pieces}
use Rattle.linker.specs.FinalRefusals.{IsLayout, IsSettled, NeverFits}

pub own_layout : (base : ℕ) (objects : List LoadedObject) → IsLayout base objects (own_where base objects)
own_layout base objects = record { base_is = refl; placed_are = own_pieces base objects; got_is = own_has_got base objects }

pub unfit_own :
    (base : ℕ) (objects : List LoadedObject) (r : Relocation) → ((w : Where) → IsLayout base objects w → ¬ Fits objects w r) →
    ¬ Fits objects (own_where base objects) r
unfit_own base objects r none = none (own_where base objects) (own_layout base objects)

pub never_fits :
    (base : ℕ) (objects : List LoadedObject) (r : Relocation) (k : Kind) → relocation_kind r ≡ Some k →
    IsSettled objects k.formula (definition_of objects r.symbol) → ¬ Fits objects (own_where base objects) r → NeverFits base objects r
never_fits base objects r k is settled unfit = record {
  kind = k;
  kind_is = is;
  settled = settled;
  layout = own_where base objects;
  is_layout = own_layout base objects;
  unfit = unfit;
}
