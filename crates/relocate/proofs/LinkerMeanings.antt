-- A reference means the linker's own name where it isn't LOCAL, the linker defines its name and no object does.
use Rattle.std.proofs.Common.{◌≡◌, ◌∙◌, ℕ, Bool, true, false, not, cond, ◌&&◌, ◌||◌, List, Option, None, Some, ap, get_or, option_map, refl, sym}
use Rattle.std.specs.BTreeSet.{BTreeSet}
use Rattle.std.specs.Borrow.{Bor}
use Rattle.std.specs.List.{All}
use Rattle.std.specs.Prelude.{filter, is_some}
use Rattle.std.specs.Str.{bytes_eq}
use Rattle.std.proofs.Math.Bool.{or-false}
use Rattle.std.proofs.lemmas.Bool.{false≢true}
use Rattle.std.proofs.lemmas.List.Elements.{All-map}
use Rattle.std.proofs.lemmas.List.Folds.{list_any_none}
use Rattle.std.specs.Option.{option_and_then, option_or}
use Rattle.elf_model.specs.Link.Commons.{Block, block_named, is_common_symbol}
use Rattle.elf_model.specs.Link.LinkerNames.{bound_of}
use Rattle.elf_model.specs.Link.Loading.{LoadedObject}
use Rattle.elf_model.specs.Link.Meaning.{Common, Linker, Meaning, Symbol, meant}
use Rattle.elf_model.specs.Inputs.ObjectFile.{rela_symbol, relas_of, sections}
use Rattle.elf_model.specs.Link.Relocation.{Relocation, definition_of, is_local, is_some_kind, relocation_of, relocations_from, symbol_at}
use Rattle.elf_model.specs.Link.Resolution.{SymbolOf, chosen, is_undefined}
use Rattle.elf_model.specs.Link.UsedNames.{Gains, is_among, is_linker_use, uses_line}
use Rattle.elf_model.specs.declared.bound.Bound.{Bound}
use Rattle.elf_model.proofs.Listing.{chosen_means}
use Rattle.elf_model.proofs.RelocationFields.{own_behind}
use Rattle.resolve.specs.Meaning.{definition_at}
use Rattle.relocate.specs.References.{IsObjectAt}
use Rattle.relocate.specs.Uses.{HasNoLinkerUse, is_linkers}

linkers_is : (objects : List LoadedObject) (s : SymbolOf) → is_linkers (definition_of objects s) ≡ is_linker_use objects s
linkers_is objects s = by (is_local s) (is_undefined s.entry) (chosen objects s.name) refl (bound_of objects s.name)
  where
    -- what a chosen symbol means isn't the linker's
    of_symbol : (d : SymbolOf) (c : Bool) (k : Option Block) → is_linkers (cond c (option_map Common k) (Some (Symbol d))) ≡ false
    of_symbol d true None = refl
    of_symbol d true (Some k) = refl
    of_symbol d false k = refl

    first : (m : Option Meaning) (b : Option Bound) → is_some m ≡ true → is_linkers m ≡ false →
        is_linkers (option_or m (option_map (Linker s.name) b)) ≡ (is_some b && false)
    first None b some not_linkers = absurd (false≢true some)
    first (Some m) None some not_linkers = not_linkers
    first (Some m) (Some b) some not_linkers = not_linkers

    by :
        (t u : Bool) (c : Option SymbolOf) → chosen objects s.name ≡ c → (b : Option Bound) →
        is_linkers (cond t (cond u None (Some (Symbol s))) (option_or (option_and_then (meant objects) c) (option_map (Linker s.name) b)))
        ≡ (not t && (is_some b && not (is_some c)))
    by true true c e b = refl
    by true false c e b = refl
    by false u (Some d) e b = first (meant objects d) b (chosen_means objects s.name d e) (of_symbol d (is_common_symbol d) (block_named objects d.name))
    by false u None e None = refl
    by false u None e (Some b) = refl

pub linker_use_at :
    (objects : List LoadedObject) (number : ℕ) (o : LoadedObject) (j : ℕ) → IsObjectAt objects number o →
    is_linkers (definition_at objects number j) ≡ is_linker_use objects (symbol_at number o j)
linker_use_at objects number o j there =
    ap (λ (f : Option LoadedObject). is_linkers (option_and_then (λ (p : LoadedObject). definition_of objects (symbol_at number p j)) f)) there
    ∙ linkers_is objects (symbol_at number o j)

module _ (objects : List LoadedObject) (number : ℕ) (o : LoadedObject) where
  -- its relocations add no name
  pub no_gain : HasNoLinkerUse objects number o → (names : BTreeSet (Bor (List ℕ))) → Gains objects (relocations_from number o) names names
  no_gain none names name =
      sym (or-false (is_among names name))
      ∙ ap (λ (b : Bool). is_among names name || b) (sym (list_any_none (uses_line objects name) (relocations_from number o) each))
    where
      unused : Relocation → Type 0
      unused r = uses_line objects name r ≡ false

      each : All unused (relocations_from number o)
      each =
          own_behind unused number o
          (λ h. All-map unused (relocation_of number o h.sh_info) (filter is_some_kind (relas_of o.bytes h))
          (λ k d low. ap (λ (b : Bool). b && bytes_eq (symbol_at number o (rela_symbol (get_or (filter is_some_kind (relas_of o.bytes h)) k d))).name name)
          (none (rela_symbol (get_or (filter is_some_kind (relas_of o.bytes h)) k d)))))
          0 (sections o.bytes)
