-- A program is entered by a link's parts exactly where it is by the link.
use Rattle.std.proofs.Common.{◌≡◌, ◌∙◌, ℕ, List, Option, None, Some, refl, subst, sym}
use Rattle.std.specs.Prelude.{◌↔◌, IsSomeAnd, false}
use Rattle.std.specs.Option.{option_and_then}
use Rattle.elf_model.specs.Inputs.Records.{file_header}
use Rattle.elf_model.specs.Link.Loading.{LoadedObject}
use Rattle.elf_model.specs.Link.Meaning.{Common, Linker, Meaning, Symbol, meant}
use Rattle.elf_model.specs.Link.Resolution.{SymbolOf, chosen, is_in_thread_section}
use Rattle.judge_model.specs.Links.{ForeignLink, objects_of, placed_of}
use Rattle.judge_model.specs.Means as means
use Rattle.judge_model.specs.RightForeign.{EntersRight}
use Rattle.link_fields.specs.Parts.{Parts, parts_of, value_of}
use Rattle.entry_judge.specs.Entries.{EntersAt, HasValue, IsAt, IsOutside}

value_is : (l : ForeignLink) (m : Meaning) → means.value_of l m ≡ value_of (placed_of l) l.certificate.merged l.certificate.names m
value_is l (Symbol s) = refl
value_is l (Common b) = refl
value_is l (Linker name bound) = refl

module _ (l : ForeignLink) (v : ℕ) where
  abbrev pub Right : Meaning → Type 0
  Right m = means.value_of l m ≡ Some v

  meaning_in : (o : Option Meaning) → IsSomeAnd o (HasValue (placed_of l) l.certificate.merged l.certificate.names v) → IsSomeAnd o Right
  meaning_in None h = h
  meaning_in (Some m) h = value_is l m ∙ h.value

  meaning_of : (o : Option Meaning) → IsSomeAnd o Right → IsSomeAnd o (HasValue (placed_of l) l.certificate.merged l.certificate.names v)
  meaning_of None h = h
  meaning_of (Some m) h = record { value = sym (value_is l m) ∙ h }

  at_in :
      (os : List LoadedObject) (o : Option SymbolOf) → IsSomeAnd o (IsAt os (placed_of l) l.certificate.merged l.certificate.names v) →
      IsSomeAnd (option_and_then (meant os) o) Right
  at_in os None h = h
  at_in os (Some s) h = meaning_in (meant os s) h.at

  at_of :
      (os : List LoadedObject) (o : Option SymbolOf) → IsSomeAnd (option_and_then (meant os) o) Right →
      IsSomeAnd o (IsAt os (placed_of l) l.certificate.merged l.certificate.names v)
  at_of os None h = h
  at_of os (Some s) h = record { at = meaning_of (meant os s) h }

module _ (os : List LoadedObject) where
  outside_in : (o : Option SymbolOf) → IsSomeAnd o (IsOutside os) → IsSomeAnd o (λ s. is_in_thread_section os s ≡ false)
  outside_in None h = h
  outside_in (Some s) h = h.outside

  outside_of : (o : Option SymbolOf) → IsSomeAnd o (λ s. is_in_thread_section os s ≡ false) → IsSomeAnd o (IsOutside os)
  outside_of None h = h
  outside_of (Some s) h = record { outside = h }

module _ (l : ForeignLink) where
  own : EntersAt (parts_of l) l.plan.plan.entry ↔ EntersRight l
  own =
      let found = chosen (objects_of l) l.plan.plan.entry in
      let v = (file_header l.image).e_entry in (
        λ e. (outside_in (objects_of l) found e.outside, at_in l v (objects_of l) found e.at),
        λ e. record { outside = outside_of (objects_of l) found e.0; at = at_of l v (objects_of l) found e.1 },
      )

  pub enters_by : (p : Parts) (name : List ℕ) → parts_of l ≡ p → l.plan.plan.entry ≡ name → EntersAt p name ↔ EntersRight l
  enters_by p name parts entry =
      subst (λ (q : Parts). EntersAt q name ↔ EntersRight l) parts
      (subst (λ (n : List ℕ). EntersAt (parts_of l) n ↔ EntersRight l) entry own)
