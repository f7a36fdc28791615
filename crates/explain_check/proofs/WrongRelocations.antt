-- What is wrong with an entry, by what its symbol means, is wrong with its relocation in the link.
use Rattle.std.proofs.Common.{◌≡◌, ℕ, ◌≤◌, ◌+◌, ◌%◌, ◌^◌, ◌*◌, ◌-◌, Bool, Option, Some, ap, subst, sym, ◌∙◌}
use Rattle.std.specs.Prelude.{IfSome, IsSomeAnd}
use Rattle.elf_model.specs.Inputs.ObjectFile.{rela_symbol, rela_type}
use Rattle.elf_model.specs.Link.Placement.{got_start}
use Rattle.elf_model.specs.Link.Relocation.{IsInRange, IsMismatch, Kind, Relocation, kind_of}
use Rattle.elf_model.specs.Link.RelocationValues.{value_of}
use Rattle.elf_model.specs.Link.Slots.{slot_address}
use Rattle.elf_model.specs.declared.records.Rela.{Rela}
use Rattle.check_link.specs.ThreadStorage.{thread_pointer}
use Rattle.check_relocs.proofs.FittingLemmas.{refers, value_is}
use Rattle.check_relocs.specs.Bindings.{IsTargetOf}
use Rattle.check_relocs.specs.LawfulFields.{IsRelocated, value_with}
use Rattle.check_relocs.specs.Referrers.{entry_here, object_here, objects_here, symbol_here}
use Rattle.check_relocs.specs.declared.lawful_fields.LinkTerms.{LinkTerms}
use Rattle.check_relocs.specs.declared.lawful_fields.Relocated.{Relocated}
use Rattle.check_relocs.specs.declared.referrer.Referrer.{Referrer}
use Rattle.check_relocs.specs.declared.targets.Target.{Target}
use Rattle.input_names.specs.RelocationPlaces.{IsKeptOf, IsRelocationAt}
use Rattle.input_names.specs.declared.relocation_faults.RelocationFault.{RelocationFault}
use Rattle.input_names.specs.declared.relocation_faults.RelocationFault.TheVariants as fault
use Rattle.input_names.specs.declared.relocation_places.RelocationPlace.{RelocationPlace}
use Rattle.explain_check.specs.Places.{IsUnfit, IsUnlawful, IsWrongRelocation, IsWrongWith}

module _
    (h : Referrer) (p : RelocationPlace) (t : Target) (to : Relocated) (g : LinkTerms)
    (at : IsKeptOf (objects_here h) h.number (object_here h) p) (here : to.section ≡ p.section)
    (means : IsTargetOf h.bindings.now (symbol_here h (rela_symbol p.entry)) t) (relocated : IsRelocated h to)
    (slot : g.slot ≡ slot_address h.bindings.now.places.slots (entry_here h to.section p.entry) - got_start h.bindings.now.places.got)
    (got : g.got ≡ got_start h.bindings.now.places.got)
    (pointer : g.thread_pointer ≡ thread_pointer h.bindings.now.places.placed) where
  abbrev e : Rela
  e = p.entry

  abbrev r : Relocation
  r = entry_here h to.section e

  relocated_at : IsRelocationAt (objects_here h) p r
  relocated_at = subst (λ (i : ℕ). IsRelocationAt (objects_here h) p (entry_here h i e)) (sym here) at

  unlawful : (f : RelocationFault) → IsWrongWith (kind_of (rela_type e)) t to e f → IsUnlawful (objects_here h) r f
  unlawful fault.Undefined w = means.undefined.0 w
  unlawful fault.RefToDropped w =
      refers h.bindings.now h.number (object_here h) to g e t means relocated.size relocated.frames relocated.address slot got pointer w
  unlawful fault.RelocKind w = w
  unlawful fault.FieldOutside w = λ inside. w (subst (λ (x : ℕ). IfSome (kind_of (rela_type e)) (λ k. e.r_offset + k.width ≤ x)) (sym relocated.size) inside)
  unlawful fault.TlsMismatch w = subst (λ (x : Bool). IsSomeAnd (kind_of (rela_type e)) (λ k. IsMismatch k.formula x)) means.thread_local w
  unlawful fault.MixedSection w = means.mixed.0 w

  module _ (k : Kind) (is : kind_of (rela_type e) ≡ Some k) where
    -- a relocation that isn't lawful
    pub told_unlawful : (f : RelocationFault) → IsWrongWith (Some k) t to e f → IsWrongRelocation (objects_here h) p f
    told_unlawful f w = record { r = r; at = relocated_at; wrong = unlawful f (subst (λ (x : Option Kind). IsWrongWith x t to e f) (sym is) w) }

    value_same : value_with (Some k) t to g e ≡ value_of (objects_here h) h.bindings.now.places r
    value_same =
        ap (λ (x : Option Kind). value_with x t to g e) (sym is)
        ∙ value_is h.bindings.now h.number (object_here h) to g e t means relocated.size relocated.frames relocated.address slot got pointer

    -- a value that doesn't fit
    pub told_unfit :
        (value : ℕ) → value ≡ value_with (Some k) t to g e → ¬ IsInRange k.range (8 * k.width) value →
        IsUnfit (objects_here h) h.bindings.now.places p value ((to.address + e.r_offset) % 2 ^ 64)
    told_unfit value is_value out = record {
      r = r;
      at = relocated_at;
      is_value = is_value ∙ value_same;
      is_address = ap (λ (x : ℕ). (x + e.r_offset) % 2 ^ 64) relocated.address;
      wrong =
          λ fits. out
          (subst (λ (v : ℕ). IsInRange k.range (8 * k.width) v) (sym (is_value ∙ value_same))
          (subst (λ (x : Option Kind). IfSome x (λ j. IsInRange j.range (8 * j.width) (value_of (objects_here h) h.bindings.now.places r))) is fits));
    }
