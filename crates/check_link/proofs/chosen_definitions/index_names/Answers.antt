use Rattle.std.proofs.Common.{◌≡◌, ◌∙◌, ap, refl, List, ℕ, sym, Some}
use Rattle.std.specs.Prelude.{◌&&◌, Bool, None, Option, filter, find, slice_get}
use Rattle.std.specs.Option.{option_and_then, option_or}
use Rattle.std.proofs.lemmas.Option.{none-some}
use Rattle.elf_model.proofs.Found.{find-filter, or_none}
use Rattle.elf_model.specs.Link.ChosenSymbols.{is_definition}
use Rattle.elf_model.specs.Link.Resolution.{SymbolOf, all_symbols, has_name, is_common_definition, is_strong, is_weak_definition}
use Rattle.check_load.specs.NameNumbers.{number_of}
use Rattle.check_load.specs.Views.{loaded_views}
use Rattle.check_link.specs.Chosen.{first_from, position_at}
use Rattle.check_link.proofs.Defined.{common_defined, strong_defined, weak_defined}
use Rattle.check_load.proofs.NumberedNames.{still_numbered}
use Rattle.check_link.proofs.Hints.{definitions_hinted}
use Rattle.check_link.proofs.Positions.{first_found}
use Rattle.check_link.proofs.chosen_definitions.index_names.Goals as goal

-- the first of some kind of a name is that among all symbols
first :
    (kind : SymbolOf → Bool) (name : List ℕ) (ss all : List SymbolOf) → ss ≡ filter is_definition all →
    filter kind (filter is_definition all) ≡ filter kind all → find (λ s. kind s && has_name name s) ss ≡ find (has_name name) (filter kind all)
first kind name ss all is same = sym (find-filter kind (has_name name) ss) ∙ ap (λ (ts : List SymbolOf). find (has_name name) (filter kind ts)) is ∙ ap (find (has_name name)) same

-- the positions that three passes leave
passes : (o a b c r s t : Option ℕ) → o ≡ None → r ≡ option_or o a → s ≡ option_or r b → t ≡ option_or s c → t ≡ option_or a (option_or b (option_or c None))
passes o a b c r s t none first_is second_is third_is =
    third_is
    ∙ ap (λ (x : Option ℕ). option_or x c) (second_is ∙ ap (λ (x : Option ℕ). option_or x b) (first_is ∙ ap (λ (x : Option ℕ). option_or x a) none))
    ∙ turned a b ∙ ap (λ (x : Option ℕ). option_or a (option_or b x)) (sym (or_none c))
  where
    turned : (x y : Option ℕ) → option_or (option_or x y) c ≡ option_or x (option_or y c)
    turned None y = refl
    turned (Some n) y = refl

pub returns-clause-chosen : goal.returns-clause-chosen
returns-clause-chosen c = λ name.
    let ss = c.args.definitions.now in
    let all = all_symbols (loaded_views c.args.objects.now) in
    let strong = λ (s : SymbolOf). is_strong s && has_name name s in
    let common = λ (s : SymbolOf). is_common_definition s && has_name name s in
    let weak = λ (s : SymbolOf). is_weak_definition s && has_name name s in
    let look = option_and_then (slice_get ss) in
    let names = c.args.names in
    let none : position_at c.new.result.items (number_of names name) ≡ None = ap (λ (ps : List (Option ℕ)). position_at ps (number_of names name)) c.new.ensures.items in
    let positions = passes _ (first_from strong 0 ss) (first_from common 0 ss) (first_from weak 0 ss) _ _ _ none
    (c.in_ok-add_first.ensures.positions name) (c.in_ok-add_first-2.ensures.positions name) (c.in_ok-add_first-3.ensures.positions name) in
    ap look positions
    ∙ first_found strong ss (option_or (first_from common 0 ss) (option_or (first_from weak 0 ss) None))
    ∙ ap (option_or (find strong ss)) (first_found common ss (option_or (first_from weak 0 ss) None))
    ∙ ap (λ (o : Option SymbolOf). option_or (find strong ss) (option_or (find common ss) o)) (first_found weak ss None ∙ or_none (find weak ss))
    ∙ ap (λ (o : Option SymbolOf). option_or o (option_or (find common ss) (find weak ss))) (first is_strong name ss all c.requires.definitions (strong_defined all))
    ∙ ap (λ (o : Option SymbolOf). option_or (find (has_name name) (filter is_strong all)) (option_or o (find weak ss)))
    (first is_common_definition name ss all c.requires.definitions (common_defined all))
    ∙ ap (λ (o : Option SymbolOf). option_or (find (has_name name) (filter is_strong all)) (option_or (find (has_name name) (filter is_common_definition all)) o))
    (first is_weak_definition name ss all c.requires.definitions (weak_defined all))

pub returns-clause-own : goal.returns-clause-own
returns-clause-own c =
    c.in_ok-add_first-3.ensures.own
    (c.in_ok-add_first-2.ensures.own
    (c.in_ok-add_first.ensures.own (λ n p s at there. absurd (none-some p (sym (ap (λ (ps : List (Option ℕ)). position_at ps n) c.new.ensures.items) ∙ at)))))

pub add_first-requires-clause-hinted : goal.add_first-requires-clause-hinted
add_first-requires-clause-hinted c = definitions_hinted c.args.names c.args.objects.now c.args.definitions.now c.requires.definitions c.requires.numbered

pub returns-clause-numbered : goal.returns-clause-numbered
returns-clause-numbered c =
    still_numbered _ _ c.args.objects.now c.in_ok-add_first-3.ensures.kept
    (still_numbered _ _ c.args.objects.now c.in_ok-add_first-2.ensures.kept
    (still_numbered _ _ c.args.objects.now c.in_ok-add_first.ensures.kept c.requires.numbered))
