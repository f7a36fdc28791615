-- What a reference to a LOCAL symbol is, and what that is worth: it uses the symbol itself.
use Rattle.std.proofs.Common.{◌≡◌, ◌≢◌, ◌∙◌, ◌%◌, ◌^◌, ◌&&◌, ℕ, Bool, true, false, cond, not, List, Option, None, Some, ap, option_map, refl, subst, sym, arith}
use Rattle.std.specs.Prelude.{◌↔◌, IsSomeAnd, IsTrue, unwrap_or}
use Rattle.std.specs.List.{slice_get}
use Rattle.std.specs.Option.{option_map_or}
use Rattle.std.proofs.lemmas.Bool.{eqb-true, false≢true}
use Rattle.std.proofs.lemmas.Option.{none-some}
use Rattle.elf_model.specs.Link.Loading.{LoadedObject}
use Rattle.elf_model.specs.Link.Meaning.{Meaning, Symbol, is_in_thread_storage, meaning, meaning_size, meaning_value}
use Rattle.elf_model.specs.Link.Pieces.{is_alloc, is_thread_local}
use Rattle.elf_model.specs.Link.Placement.{Where, symbol_value}
use Rattle.elf_model.specs.Link.Relocation.{IsMixed, definition_of, is_local, symbol_at}
use Rattle.elf_model.specs.Link.Resolution.{SymbolOf, binding, is_undefined, section_of, sections_of_object}
use Rattle.elf_model.specs.declared.records.SectionHeader.{SectionHeader}
use Rattle.relocate.specs.References.{IsObjectAt, section_in}
use Rattle.relocate.specs.SymbolTables.{IsReference, IsValueOf}
use Rattle.relocate.specs.declared.referrer.Reference.{Reference}
use Rattle.relocate.specs.declared.symbol_values.SymbolValue.{SymbolValue}

module _ (objects : List LoadedObject) (s : SymbolOf) (local : is_local s ≡ true) where
  -- it uses itself, where it is defined
  abbrev own : Bool → Option Meaning
  own undefined = cond undefined None (Some (Symbol s))

  uses : definition_of objects s ≡ own (is_undefined s.entry)
  uses = ap (λ (t : Bool). cond t (own (is_undefined s.entry)) (meaning objects s.name)) local

  not_weak : binding s.entry ≢ 2
  not_weak e = let zero = eqb-true (binding s.entry) 0 local in omega (arith, zero, e)

  lacks : definition_of objects s ≡ None → is_undefined s.entry ≡ true
  lacks none = by (is_undefined s.entry) (sym uses ∙ none)
    where
      by : (u : Bool) → own u ≡ None → u ≡ true
      by true e = refl
      by false e = absurd (none-some (Symbol s) (sym e))

  unmixed : IsSomeAnd (definition_of objects s) (IsMixed objects) → ⊥
  unmixed mixed = by (is_undefined s.entry) (subst (λ (m : Option Meaning). IsSomeAnd m (IsMixed objects)) uses mixed)
    where
      by : (u : Bool) → IsSomeAnd (own u) (IsMixed objects) → ⊥
      by true m = m
      by false m = m

  threads : option_map_or is_thread_local (section_of objects s) false ≡ option_map_or (is_in_thread_storage objects) (definition_of objects s) false
  threads = by (is_undefined s.entry) refl ∙ ap (λ (m : Option Meaning). option_map_or (is_in_thread_storage objects) m false) (sym uses)
    where
      there : Option SectionHeader
      there = slice_get (sections_of_object (slice_get objects s.object)) s.entry.st_shndx

      by : (u : Bool) → is_undefined s.entry ≡ u → option_map_or is_thread_local (section_of objects s) false ≡ option_map_or (is_in_thread_storage objects) (own u) false
      by true e = ap (λ (u : Bool). option_map_or is_thread_local (cond u None there) false) e
      by false e = refl

  pub is_local_reference :
      (h : Option SectionHeader) (r : Reference) → section_of objects s ≡ h → (IsTrue r.undefined ↔ ((s.number ≢ 0) × (is_undefined s.entry ≡ true))) →
      (IsTrue r.unkept ↔ IsSomeAnd h (λ x. (is_alloc x && not s.dropped) ≡ false)) → r.dropped ≡ s.dropped →
      r.thread_local ≡ option_map_or is_thread_local h false → r.mixed ≡ false → IsReference objects s r
  is_local_reference h r stands undefined unkept dropped thread_local mixed = record {
    undefined = (
      λ t. ((undefined.0 t).0, not_weak, uses ∙ ap own (undefined.0 t).1),
      λ l. undefined.1 (l.0, lacks l.2),
    );
    unkept = (
      λ t. (local, subst (λ (x : Option SectionHeader). IsSomeAnd x (λ y. (is_alloc y && not s.dropped) ≡ false)) (sym stands) (unkept.0 t)),
      λ l. unkept.1 (subst (λ (x : Option SectionHeader). IsSomeAnd x (λ y. (is_alloc y && not s.dropped) ≡ false)) stands l.1),
    );
    dropped = dropped;
    thread_local = thread_local ∙ (ap (λ (x : Option SectionHeader). option_map_or is_thread_local x false) (sym stands) ∙ threads);
    mixed = (λ t. absurd (false≢true (sym mixed ∙ t)), λ m. absurd (unmixed m));
  }

  -- what it is worth: nothing where it is undefined
  worth :
      (u : Bool) → is_undefined s.entry ≡ u → (w : Where) (v : SymbolValue) → v.value ≡ unwrap_or (option_map (meaning_value w) (own u)) 0 % 2 ^ 64 →
      v.size ≡ unwrap_or (option_map meaning_size (own u)) 0 % 2 ^ 64 → IsValueOf objects w s v
  worth u is w v value size =
      let e : own u ≡ definition_of objects s = sym (uses ∙ ap own is) in
      record {
        value = value ∙ ap (λ (m : Option Meaning). unwrap_or (option_map (meaning_value w) m) 0 % 2 ^ 64) e;
        size = size ∙ ap (λ (m : Option Meaning). unwrap_or (option_map meaning_size m) 0 % 2 ^ 64) e;
      }

  pub no_value : is_undefined s.entry ≡ true → (w : Where) (v : SymbolValue) → v.value ≡ 0 → v.size ≡ 0 → IsValueOf objects w s v
  no_value is w v value size = worth true is w v value size

  pub own_value :
      is_undefined s.entry ≡ false → (w : Where) (v : SymbolValue) → v.value ≡ symbol_value w.placed s % 2 ^ 64 → v.size ≡ s.entry.st_size % 2 ^ 64 →
      IsValueOf objects w s v
  own_value is w v value size = worth false is w v value size

-- the section of a symbol of an object, among all objects
pub stands_in : (objects : List LoadedObject) (n : ℕ) (o : LoadedObject) (j : ℕ) → IsObjectAt objects n o → section_of objects (symbol_at n o j) ≡ section_in o.bytes (symbol_at n o j).entry
stands_in objects n o j there =
    ap (λ (f : Option LoadedObject). cond (is_undefined s.entry) None (slice_get (sections_of_object f) s.entry.st_shndx)) there
  where
    s : SymbolOf
    s = symbol_at n o j
