-- The paths of a plan's items, as the code goes over them.
use Rattle.std.proofs.Common.{◌≡◌, ℕ, Bool, List, [], ◌∷◌, ◌++◌, Option, map, refl, ap, ◌∙◌, sym}
use Rattle.std.specs.Borrow.{Bor}
use Rattle.std.specs.List.{flat_map}
use Rattle.elf_model.specs.Inputs.Command as command
use Rattle.elf_model.specs.Inputs.Command.{paths_of, candidates_of}
use Rattle.command.specs.declared.items.Item.{Item}
use Rattle.command.specs.Views.{source_of, item_of, texts_of, plan_of}
use Rattle.command.specs.Candidates.{with_all}
use Rattle.command.proofs.Distinct.{distinct_is}

over_items : (ds : List (List ℕ)) (items : List Item) → flat_map (λ (i : command.Item). paths_of ds i.source) (map item_of items) ≡ flat_map (λ (i : Item). paths_of ds (source_of i.source)) items
over_items ds [] = refl
over_items ds (i ∷ is) = ap (λ ps. paths_of ds (source_of i.source) ++ ps) (over_items ds is)

pub candidates_is : (plan : command.Plan) (items : List Item) (directories undefined : List (Bor (List ℕ))) (entry : Bor (List ℕ)) (base : ℕ) (output : Bor (List ℕ)) (path : Option (Bor (List ℕ))) (check strip : Bool) → plan_of items directories undefined entry base output path check strip ≡ plan → with_all [] (flat_map (λ (i : Item). paths_of (texts_of directories) (source_of i.source)) items) ≡ candidates_of plan
unfolding candidates_of
candidates_is plan items directories undefined entry base output path check strip e =
    distinct_is (flat_map (λ (i : Item). paths_of (texts_of directories) (source_of i.source)) items)
    ∙ ap command.distinct (sym (over_items (texts_of directories) items))
    ∙ ap candidates_of e
