-- Marks of definitions that are the chosen ones of their names.
use Rattle.std.proofs.Common.{◌≡◌, ◌==◌, ◌&&◌, ◌∙◌, ℕ, Bool, true, false, refl, Option, List, Some, ap, subst}
use Rattle.std.specs.Prelude.{IfSome, None, slice_get}
use Rattle.elf_model.specs.Link.Loading.{LoadedObject}
use Rattle.std.specs.Option.{option_map_or}
use Rattle.std.proofs.lemmas.Bool.{eq-eqb}
use Rattle.elf_model.specs.Link.ChosenSymbols.{is_chosen, is_same_symbol}
use Rattle.elf_model.specs.Link.Resolution.{SymbolOf, chosen}
use Rattle.check_link.specs.Views.{symbol_view}
use Rattle.check_link.specs.declared.things.SymbolOf as code
use Rattle.check_link.specs.Chosen.{AreOtherChoices, AreOwnChoices}

-- a definition with a mark is that of its name
pub own_found : (L : List LoadedObject) (ss : List SymbolOf) (own : List Bool) (i : ℕ) (s : code.SymbolOf) (name : List ℕ) → AreOwnChoices L ss own →
    slice_get own i ≡ Some true → slice_get ss i ≡ Some (symbol_view s) → s.name.now ≡ name → chosen L name ≡ Some (symbol_view s)
own_found L ss own i s name are mark at same = subst (λ (n : List ℕ). chosen L n ≡ Some (symbol_view s)) same (are i (symbol_view s) mark at)

-- what is chosen for its own name is chosen
pub chosen_itself : (L : List LoadedObject) (s : SymbolOf) → chosen L s.name ≡ Some s → is_chosen L s ≡ true
chosen_itself L s e =
    ap (λ (o : Option SymbolOf). option_map_or (is_same_symbol s) o false) e
    ∙ (ap (λ (b : Bool). b && (s.number == s.number)) (eq-eqb s.object s.object refl) ∙ eq-eqb s.number s.number refl)

-- what the mark at a position tells of the definition there
pub own_there : (L : List LoadedObject) (ss : List SymbolOf) (own : List Bool) (i : ℕ) → AreOwnChoices L ss own → slice_get own i ≡ Some true → IfSome (slice_get ss i) (λ s. is_chosen L s ≡ true)
own_there L ss own i are mark = by (slice_get ss i) refl
  where
    by : (o : Option SymbolOf) → slice_get ss i ≡ o → IfSome o (λ s. is_chosen L s ≡ true)
    by None e = tt
    by (Some s) e = chosen_itself L s (are i s mark e)

pub other_there : (L : List LoadedObject) (ss : List SymbolOf) (own : List Bool) (i : ℕ) → AreOtherChoices L ss own → slice_get own i ≡ Some false → IfSome (slice_get ss i) (λ s. is_chosen L s ≡ false)
other_there L ss own i are mark = by (slice_get ss i) refl
  where
    by : (o : Option SymbolOf) → slice_get ss i ≡ o → IfSome o (λ s. is_chosen L s ≡ false)
    by None e = tt
    by (Some s) e = are i s mark e
