-- The numbers of the names of symbols and of definitions.
use Rattle.std.proofs.Common.{◌≡◌, ℕ, Bool, true, false, cond, List, [], get_or, refl, sym, ◌∙◌, ap, arith}
use Rattle.std.specs.Prelude.{All, None, Option, Some, option_map, slice_get, unwrap_or}
use Rattle.std.specs.Option.{option_and_then}
use Rattle.std.proofs.lemmas.Bool.Decides.{nat_tests}
use Rattle.std.proofs.lemmas.Option.{none-some, same_Some}
use Rattle.std.proofs.lemmas.List.Elements.{All-filter, filter_passes}
use Rattle.elf_model.specs.Link.ChosenSymbols.{chosen_symbols, definitions, is_chosen, is_definition}
use Rattle.elf_model.specs.Link.Loading.{LoadedObject, is_global_or_weak}
use Rattle.elf_model.specs.Inputs.ObjectFile.{name_of_symbol, symbol_name, symbols}
use Rattle.elf_model.specs.Link.Resolution.{SymbolOf, all_symbols}
use Rattle.elf_model.specs.declared.records.Symbol.{Symbol}
use Rattle.search.specs.Loads.{LoadedPlan}
use Rattle.search.specs.Names.{is_among, number_of}
use Rattle.search.specs.Numbers.{AreNamed, name_number}
use Rattle.search.proofs.Numbering.{number_at}
use Rattle.resolve.proofs.Located.{IsAt, found_at, located}

-- a definition isn't LOCAL
shared_definition : (s : SymbolOf) → is_definition s ≡ true → is_global_or_weak s.entry ≡ true
shared_definition s is = grind (arith, nat_tests)

-- a symbol whose name has the number that is told of it
pub record IsNumbered (l : LoadedPlan) (s : SymbolOf) : Type 0 where
  pub number : name_number l s.object s.number ≡ Some (number_of l.names s.name)
  pub among : AreNamed l → is_among l.names s.name ≡ true

module _ (l : LoadedPlan) where
  abbrev told : LoadedObject → ℕ → Option ℕ
  told o j = option_and_then (λ x. cond (is_global_or_weak x) (Some (number_of l.names (name_of_symbol o.bytes x))) None) (slice_get (symbols o.bytes) j)

  numbered : (s : SymbolOf) → IsAt l.objects s → is_definition s ≡ true → IsNumbered l s
  numbered s at is =
      let f = found_at l.objects s.object s.number s at.is in
      let entry : s.entry ≡ f.1 = ap (λ (t : SymbolOf). t.entry) (sym f.4) in
      let shared : is_global_or_weak f.1 ≡ true = ap is_global_or_weak (sym entry) ∙ shared_definition s is in
      let called : name_of_symbol f.0.bytes f.1 ≡ s.name =
      sym (ap (λ (o : Option Symbol). unwrap_or (option_map (name_of_symbol f.0.bytes) o) []) f.3) ∙ ap (λ (t : SymbolOf). t.name) f.4 in
      record {
        number =
            ap (option_and_then (λ (o : LoadedObject). told o s.number)) f.2
            ∙ (ap (option_and_then (λ (x : Symbol). cond {A = Option ℕ} (is_global_or_weak x) (Some (number_of l.names (name_of_symbol f.0.bytes x))) None)) f.3
            ∙ (ap (λ (b : Bool). cond {A = Option ℕ} b (Some (number_of l.names (name_of_symbol f.0.bytes f.1))) None) shared
            ∙ ap (λ (n : List ℕ). Some (number_of l.names n)) called));
        among = λ named. sym (ap (is_among l.names) called) ∙ named s.object s.number f.0 f.1 f.2 f.3 shared;
      }

  -- each definition, and each chosen one
  pub all_numbered : All (IsNumbered l) (definitions l.objects)
  all_numbered m e within =
      numbered (get_or (definitions l.objects) m e)
      (All-filter is_definition (IsAt l.objects) (all_symbols l.objects) (located l.objects) m e within)
      (filter_passes is_definition (all_symbols l.objects) m e within)

  pub chosen_numbered : All (IsNumbered l) (chosen_symbols l.objects)
  chosen_numbered = All-filter (is_chosen l.objects) (IsNumbered l) (definitions l.objects) all_numbered

-- the name that has the number of a symbol's name is that name
pub name_told :
    (l : LoadedPlan) (k j : ℕ) (o : LoadedObject) (number : ℕ) → AreNamed l → slice_get l.objects k ≡ Some o → name_number l k j ≡ Some number →
    get_or l.names number [] ≡ unwrap_or (symbol_name o.bytes j) []
name_told l k j o number named here told_ = by (slice_get (symbols o.bytes) j) refl (sym (ap (option_and_then (λ (x : LoadedObject). told l x j)) here) ∙ told_)
  where
    of_entry : (x : Symbol) → Option ℕ
    of_entry x = cond (is_global_or_weak x) (Some (number_of l.names (name_of_symbol o.bytes x))) None

    shared : (x : Symbol) → slice_get (symbols o.bytes) j ≡ Some x → (b : Bool) → is_global_or_weak x ≡ b →
        cond {A = Option ℕ} b (Some (number_of l.names (name_of_symbol o.bytes x))) None ≡ Some number → get_or l.names number [] ≡ name_of_symbol o.bytes x
    shared x at true e is =
        ap (λ (n : ℕ). get_or l.names n []) (sym (same_Some _ _ is))
        ∙ number_at l.names (name_of_symbol o.bytes x) [] (named k j o x here at e)
    shared x at false e is = absurd (none-some number is)

    by : (s : Option Symbol) → slice_get (symbols o.bytes) j ≡ s → option_and_then of_entry (slice_get (symbols o.bytes) j) ≡ Some number → get_or l.names number [] ≡ unwrap_or (symbol_name o.bytes j) []
    by None at is = absurd (none-some number (sym (ap (option_and_then of_entry) at) ∙ is))
    by (Some x) at is =
        shared x at (is_global_or_weak x) refl (sym (ap (option_and_then of_entry) at) ∙ is)
        ∙ sym (ap (λ (s : Option Symbol). unwrap_or (option_map (name_of_symbol o.bytes) s) []) at)
