-- An entry is right by what is known of its name exactly where it is right.
use Rattle.std.proofs.Common.{◌≡◌, ◌∙◌, ℕ, ◌<◌, ◌≤◌, ◌⊎◌, inl, inr, ◌==◌, ◌&&◌, ◌||◌, true, false, List, length, Option, None, Some, refl, sym, ap, subst, arith, true≢false}
use Rattle.std.specs.Prelude.{◌↔◌, All, Any, Contains, IsPermutation, not, IsSomeAnd, is_some, nat_le, option_map}
use Rattle.std.specs.List.{position}
use Rattle.std.specs.Option.{option_and_then, option_map_or}
use Rattle.std.specs.Str.{bytes_eq}
use Rattle.std.proofs.lemmas.Bool.{cases_lt}
use Rattle.std.proofs.lemmas.List.Elements.{All-contains}
use Rattle.std.proofs.lemmas.List.Sorted.{All-permutation, IsPermutation-sym}
use Rattle.std.proofs.lemmas.List.FromFn.{length-map-range_with_len}
use Rattle.byteview.specs.Numbers.{text}
use Rattle.check_load.proofs.Numbering.{found_number}
use Rattle.check_load.specs.NameNumbers.{is_among, number_of}
use Rattle.elf_model.proofs.Listed.{All-from_contains}
use Rattle.elf_model.specs.Link.Meaning.{Common, Linker, Meaning, Symbol, object_meaning}
use Rattle.elf_model.specs.Link.Resolution.{SymbolOf, all_symbols, symbol_type}
use Rattle.elf_model.specs.declared.constants.TheConstants.{SHN_LORESERVE}
use Rattle.elf_model.specs.declared.records.SectionHeader.{SectionHeader}
use Rattle.elf_model.specs.declared.records.Symbol as entry
use Rattle.judge_model.specs.Links.{ForeignLink, objects_of, placed_of}
use Rattle.judge_model.specs.Means as means
use Rattle.judge_model.specs.Plans.{Script, is_match}
use Rattle.std.specs.List.{list_any}
use Rattle.judge_model.specs.Tables as tables
use Rattle.judge_model.specs.Tables.{HasBindingOf, HasSizeOf, HasTypeOf, IsEntryOf, IsEntryRight, IsFile, IsGlobalEntry, IsLocalEntry, IsLocalOf, IsMade, IsMissing, IsOfSection, IsScriptEntry, IsSection, StandsRight, image_sections, name_of_entry, section_count, shn_xindex, strings_of}
use Rattle.link_fields.specs.Parts.{Parts, parts_of}
use Rattle.link_fields.specs.Parts as words
use Rattle.symbol_judge.specs.Entries.{IsLocalEntryBy, IsMadeBy, IsMissingBy, IsRightBy, IsRightNamed, IsSectionBy, named_by}
use Rattle.symbol_judge.specs.Indexes.{wanted_at}
use Rattle.symbol_judge.specs.Locals.{IsLocalBy, locals_in}
use Rattle.symbol_judge.specs.Wanted.{Fits, HasBinding, HasKind, HasSize, IsOfSectionIn, StandsIn, binding_of, size_of, takes_no_memory, type_of, wanted_of}
use Rattle.symbol_judge.specs.declared.entries.Named.{Named}
use Rattle.symbol_judge.specs.declared.locals.Local.{Local}
use Rattle.symbol_judge.specs.declared.wanted.Wanted.{Wanted}
use Rattle.symbol_judge.proofs.ThereLaws.{any_weaker}
use Rattle.symbol_judge.proofs.LocalLaws.{IsLocalOfIn, entry_of, symbol_of}

value_is : (l : ForeignLink) (m : Meaning) → means.value_of l m ≡ words.value_of (placed_of l) l.certificate.merged l.certificate.names m
value_is l (Symbol s) = refl
value_is l (Common b) = refl
value_is l (Linker name bound) = refl

none_of : {X : Type 0} (o : Option X) → is_some o ≡ false → o ≡ None
none_of None e = refl
none_of (Some x) e = absurd (true≢false e)

module _ (l : ForeignLink) (e : entry.Symbol) where
  abbrev hs : List SectionHeader
  hs = image_sections l.image

  abbrev wanted : Meaning → ℕ → Wanted
  wanted m v = wanted_of (objects_of l) (placed_of l) m v

  -- size, type and binding
  sized_of : (m : Meaning) → HasSize e (size_of m) → HasSizeOf e m
  sized_of (Symbol s) h = h.size_is
  sized_of (Common b) h = h.size_is
  sized_of (Linker name bound) h = tt

  sized_in : (m : Meaning) → HasSizeOf e m → HasSize e (size_of m)
  sized_in (Symbol s) h = record { size_is = h }
  sized_in (Common b) h = record { size_is = h }
  sized_in (Linker name bound) h = record { size_is = tt }

  kind_of : (m : Meaning) → HasKind e (type_of m) → HasTypeOf e m
  kind_of (Symbol s) h = h.kind_is
  kind_of (Common b) h = h.kind_is
  kind_of (Linker name bound) h = by h.kind_is
    where
      by : (symbol_type e ≡ 1) ⊎ (symbol_type e ≡ 0) → symbol_type e ≤ 1
      by (inl one) = omega (arith, one)
      by (inr none) = omega (arith, none)

  kind_in : (m : Meaning) → HasTypeOf e m → HasKind e (type_of m)
  kind_in (Symbol s) h = record { kind_is = h }
  kind_in (Common b) h = record { kind_is = h }
  kind_in (Linker name bound) h = record { kind_is = by (cases_lt 0 (symbol_type e)) }
    where
      by : (0 < symbol_type e) ⊎ (symbol_type e ≤ 0) → (symbol_type e ≡ 1) ⊎ (symbol_type e ≡ 0)
      by (inl some) = inl (omega (arith, some, h))
      by (inr none) = inr (omega (arith, none))

  bound_of : (m : Meaning) → HasBinding e (binding_of m) → HasBindingOf e m
  bound_of (Symbol s) h = h.binding_is
  bound_of (Common b) h = tt
  bound_of (Linker name bound) h = tt

  bound_in : (m : Meaning) → HasBindingOf e m → HasBinding e (binding_of m)
  bound_in (Symbol s) h = record { binding_is = h }
  bound_in (Common b) h = record { binding_is = tt }
  bound_in (Linker name bound) h = record { binding_is = tt }

  -- section
  many : (e.st_shndx == shn_xindex && nat_le SHN_LORESERVE (length hs)) ≡ (e.st_shndx == shn_xindex && nat_le SHN_LORESERVE (section_count l.image))
  many = ap (λ (n : ℕ). e.st_shndx == shn_xindex && nat_le SHN_LORESERVE n) (length-map-range_with_len _ 0 (section_count l.image))

  section_of : (v : ℕ) → IsOfSectionIn hs e v → IsOfSection l.image e v
  section_of v (inl absolute) = inl absolute
  section_of v (inr (inl beyond)) = inr (inl (sym many ∙ beyond))
  section_of v (inr (inr there)) = inr (inr there)

  section_in : (v : ℕ) → IsOfSection l.image e v → IsOfSectionIn hs e v
  section_in v (inl absolute) = inl absolute
  section_in v (inr (inl beyond)) = inr (inl (many ∙ beyond))
  section_in v (inr (inr there)) = inr (inr there)

  memory_is : (m : Meaning) → takes_no_memory (placed_of l) m ≡ tables.takes_no_memory l m
  memory_is (Symbol s) = refl
  memory_is (Common b) = refl
  memory_is (Linker name bound) = refl

  stands_of : (m : Meaning) (v : ℕ) → StandsIn hs e v (takes_no_memory (placed_of l) m) → StandsRight l e m v
  stands_of m v h = by h.stands
    where
      by : IsOfSectionIn hs e v ⊎ ((takes_no_memory (placed_of l) m ≡ true) × tables.IsOfSome l.image e) → StandsRight l e m v
      by (inl here) = inl (section_of v here)
      by (inr (free, some)) = inr (sym (memory_is m) ∙ free, some)

  stands_in : (m : Meaning) (v : ℕ) → StandsRight l e m v → StandsIn hs e v (takes_no_memory (placed_of l) m)
  stands_in m v (inl here) = record { stands = inl (section_in v here) }
  stands_in m v (inr (free, some)) = record { stands = inr (memory_is m ∙ free, some) }

  -- what an entry has to be
  entry_of_fit : (m : Meaning) (v : ℕ) → Fits hs e (wanted m v) → IsEntryOf l e m v
  entry_of_fit m v f = record {
    value = f.value;
    size = sized_of m f.size;
    type_ = kind_of m f.kind;
    binding_ = bound_of m f.binding_;
    section = stands_of m v f.section;
  }

  fit_of_entry : (m : Meaning) (v : ℕ) → IsEntryOf l e m v → Fits hs e (wanted m v)
  fit_of_entry m v i = record {
    value = i.value;
    size = sized_in m i.size;
    kind = kind_in m i.type_;
    binding_ = bound_in m i.binding_;
    section = stands_in m v i.section;
  }

  -- an entry of what its name means to all objects
  value_to : (m : Meaning) (u : Option ℕ) → IsSomeAnd (option_map (wanted m) u) (Fits hs e) → IsSomeAnd u (IsEntryOf l e m)
  value_to m None never = never
  value_to m (Some v) f = entry_of_fit m v f

  value_from : (m : Meaning) (u : Option ℕ) → IsSomeAnd u (IsEntryOf l e m) → IsSomeAnd (option_map (wanted m) u) (Fits hs e)
  value_from m None never = never
  value_from m (Some v) i = fit_of_entry m v i

  global_to : (o : Option Meaning) → IsSomeAnd (option_and_then (wanted_at (parts_of l)) o) (Fits hs e) → IsSomeAnd o (λ m. IsSomeAnd (means.value_of l m) (IsEntryOf l e m))
  global_to None never = never
  global_to (Some m) f =
      subst (λ (u : Option ℕ). IsSomeAnd u (IsEntryOf l e m)) (sym (value_is l m)) (value_to m (words.value_of (placed_of l) l.certificate.merged l.certificate.names m) f)

  global_from : (o : Option Meaning) → IsSomeAnd o (λ m. IsSomeAnd (means.value_of l m) (IsEntryOf l e m)) → IsSomeAnd (option_and_then (wanted_at (parts_of l)) o) (Fits hs e)
  global_from None never = never
  global_from (Some m) i =
      value_from m (words.value_of (placed_of l) l.certificate.merged l.certificate.names m) (subst (λ (u : Option ℕ). IsSomeAnd u (IsEntryOf l e m)) (value_is l m) i)

  -- an entry of a LOCAL symbol
  local_to : (name : List ℕ) (s : SymbolOf) → IsLocalOfIn (parts_of l) hs name e s → IsLocalOf l name e s
  local_to name s h = (
    h.local,
    h.named,
    h.defined,
    subst (λ (u : Option ℕ). IsSomeAnd u (IsEntryOf l e (Symbol s))) (sym h.value_is) (entry_of_fit (Symbol s) h.value h.fits),
  )

  local_from : (name : List ℕ) (s : SymbolOf) → IsLocalOf l name e s → IsLocalOfIn (parts_of l) hs name e s
  local_from name s (local, named, defined, i) = by (means.symbol_value l s) refl i
    where
      by : (u : Option ℕ) → means.symbol_value l s ≡ u → IsSomeAnd u (IsEntryOf l e (Symbol s)) → IsLocalOfIn (parts_of l) hs name e s
      by None is never = absurd never
      by (Some v) is told = record {
        local = local;
        named = named;
        defined = defined;
        value = v;
        value_is = is;
        fits = fit_of_entry (Symbol s) v told;
      }

  -- an entry of what nothing defines, and one of a section
  missing_to : (name : List ℕ) → IsMissingBy (is_some (means.object_or_linker l name)) e → IsMissing l name e
  missing_to name m = record { undefined = m.undefined; value = m.value; weak = m.weak; none = none_of (means.object_or_linker l name) m.none }

  missing_from : (name : List ℕ) → IsMissing l name e → IsMissingBy (is_some (means.object_or_linker l name)) e
  missing_from name m = record {
    undefined = m.undefined;
    value = m.value;
    weak = m.weak;
    none = ap (λ (o : Option Meaning). is_some o) m.none;
  }

  section_to : IsSectionBy hs e → IsSection l.image e
  section_to s = record { type_ = s.type_; binding_ = s.binding_; value = s.value }

  section_from : IsSection l.image e → IsSectionBy hs e
  section_from s = record { type_ = s.type_; binding_ = s.binding_; value = s.value }

  -- without a script there is no entry of one
  no_script : l.plan.script ≡ None → (name : List ℕ) → means.is_by_script l name ≡ false
  no_script none name =
      ap
      (λ (o : Option Script).
      option_map_or (λ t. list_any (λ n. is_match n name) t.names) o false
      || (option_map_or (λ t. list_any (λ n. is_match n name) t.provided) o false && not (is_some (object_meaning (objects_of l) name))))
      none

  -- all that an entry may be
  module _ (none : l.plan.script ≡ None) (names : List (List ℕ)) (table : List Local) (among : is_among names (name_of_entry l.image e) ≡ true) (same : IsPermutation (locals_in (parts_of l) names (all_symbols (objects_of l))) table) where
    abbrev name : List ℕ
    name = name_of_entry l.image e

    abbrev number : ℕ
    number = number_of names name

    number_is : position (bytes_eq name) names ≡ Some number
    number_is = found_number names name among

    abbrev named : Named
    named = named_by (parts_of l) (strings_of l.image hs) names e.st_name

    local_entry_to : IsLocalEntryBy hs table named e → IsLocalEntry l name e
    local_entry_to b =
        let some = subst (λ (o : Option ℕ). IsSomeAnd o (λ k. Any (IsLocalBy hs k e) table)) number_is b.symbol in
        let of = symbol_of (parts_of l) names hs name e number number_is (all_symbols (objects_of l)) table same some in
        (b.binding_, any_weaker (IsLocalOfIn (parts_of l) hs name e) (IsLocalOf l name e) (local_to name) (all_symbols (objects_of l)) of)

    local_entry_from : IsLocalEntry l name e → IsLocalEntryBy hs table named e
    local_entry_from (binding, some) =
        let of = any_weaker (IsLocalOf l name e) (IsLocalOfIn (parts_of l) hs name e) (local_from name) (all_symbols (objects_of l)) some in
        record {
          binding_ = binding;
          symbol =
              subst (λ (o : Option ℕ). IsSomeAnd o (λ k. Any (IsLocalBy hs k e) table)) (sym number_is)
              (entry_of (parts_of l) names hs name e number number_is (all_symbols (objects_of l)) table same of);
        }

    -- an entry of a name that the linker made of itself
    made_to : IsMadeBy named e → IsMade l name e
    made_to m = record {
      known = m.known;
      none = none_of (means.object_or_linker l name) m.none;
      binding_ = m.binding_;
      type_ = m.type_;
      size = m.size;
    }

    made_from : IsMade l name e → IsMadeBy named e
    made_from m = record {
      known = m.known;
      none = ap (λ (o : Option Meaning). is_some o) m.none;
      binding_ = m.binding_;
      type_ = m.type_;
      size = m.size;
    }

    right_to : IsRightBy hs table named e → IsEntryRight l e
    right_to (inl fits) = inl (global_to (means.object_or_linker l name) fits)
    right_to (inr (inl local)) = inr (inl (local_entry_to local))
    right_to (inr (inr (inl missing))) = inr (inr (inr (inl (missing_to name missing))))
    right_to (inr (inr (inr (inl made)))) = inr (inr (inr (inr (inl (made_to made)))))
    right_to (inr (inr (inr (inr (inl file))))) = inr (inr (inr (inr (inr (inl file)))))
    right_to (inr (inr (inr (inr (inr section))))) = inr (inr (inr (inr (inr (inr (section_to section))))))

    right_from : IsEntryRight l e → IsRightBy hs table named e
    right_from (inl global) = inl (global_from (means.object_or_linker l name) global)
    right_from (inr (inl local)) = inr (inl (local_entry_from local))
    right_from (inr (inr (inl script))) = absurd (true≢false (sym script.0 ∙ no_script none name))
    right_from (inr (inr (inr (inl missing)))) = inr (inr (inl (missing_from name missing)))
    right_from (inr (inr (inr (inr (inl made))))) = inr (inr (inr (inl (made_from made))))
    right_from (inr (inr (inr (inr (inr (inl file)))))) = inr (inr (inr (inr (inl file))))
    right_from (inr (inr (inr (inr (inr (inr section)))))) = inr (inr (inr (inr (inr (section_from section)))))

-- All entries but the first, in any order.
module _ (l : ForeignLink) (p : Parts) (hs : List SectionHeader) (strings : List ℕ) (names : List (List ℕ)) (table : List Local) (rest others : List entry.Symbol) (parts : parts_of l ≡ p) (none : p.script ≡ None) (sections : image_sections l.image ≡ hs) (strings_are : strings_of l.image (image_sections l.image) ≡ strings) (order : IsPermutation rest others) (among : (e : entry.Symbol) → Contains others e → is_among names (text strings e.st_name) ≡ true) (same : IsPermutation (locals_in p names (all_symbols p.objects)) table) where
  each : (e : entry.Symbol) → Contains others e → IsRightNamed p hs strings names table e ↔ IsEntryRight l e
  each e there =
      subst (λ (q : Parts). IsRightNamed q hs strings names table e ↔ IsEntryRight l e) parts
      (subst (λ (gs : List SectionHeader). IsRightNamed (parts_of l) gs strings names table e ↔ IsEntryRight l e) sections
      (subst (λ (bytes : List ℕ). IsRightNamed (parts_of l) (image_sections l.image) bytes names table e ↔ IsEntryRight l e) strings_are (
        λ r. right_to l e no names table noted kept r.right,
        λ r. record { right = right_from l e no names table noted kept r },
      )))
    where
      no : l.plan.script ≡ None
      no = ap (λ (q : Parts). q.script) parts ∙ none

      noted : is_among names (name_of_entry l.image e) ≡ true
      noted = subst (λ (bytes : List ℕ). is_among names (text bytes e.st_name) ≡ true) (sym strings_are) (among e there)

      kept : IsPermutation (locals_in (parts_of l) names (all_symbols (objects_of l))) table
      kept = subst (λ (q : Parts). IsPermutation (locals_in q names (all_symbols q.objects)) table) (sym parts) same

  pub entries_iff : All (IsRightNamed p hs strings names table) others ↔ All (IsEntryRight l) rest
  entries_iff = (
    λ all.
        All-permutation (IsEntryRight l) others rest (IsPermutation-sym rest others order)
        (All-from_contains (IsEntryRight l) others
        (λ e there. (each e there).0 (All-contains (IsRightNamed p hs strings names table) others e all there))),
    λ all.
        All-from_contains (IsRightNamed p hs strings names table) others
        (λ e there. (each e there).1 (All-contains (IsEntryRight l) others e (All-permutation (IsEntryRight l) rest others order all) there)),
  )

-- what is known of a name is what is known of it by its own offset
pub named_own :
    (p : Parts) (strings : List ℕ) (names : List (List ℕ)) (n : Named) (offset : ℕ) → n ≡ named_by p strings names offset → n ≡ named_by p strings names n.offset
named_own p strings names n offset is = is ∙ ap (named_by p strings names) (sym (ap (λ (m : Named). m.offset) is))

pub right_named :
    (p : Parts) (hs : List SectionHeader) (strings : List ℕ) (names : List (List ℕ)) (table : List Local) (n : Named) (e : entry.Symbol) →
    n ≡ named_by p strings names e.st_name → IsRightBy hs table n e ↔ IsRightNamed p hs strings names table e
right_named p hs strings names table n e is = (
  λ h. record { right = subst (λ (m : Named). IsRightBy hs table m e) is h },
  λ r. subst (λ (m : Named). IsRightBy hs table m e) (sym is) r.right,
)
