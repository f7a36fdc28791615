use Rattle.std.proofs.Common.{arith, ◌≡◌, ◌∙◌, ◌+◌, List, [], ◌∷◌, ℕ, zero, suc, Some, ap, refl}
use Rattle.std.specs.List.{slice_get}
use Rattle.std.proofs.lemmas.Option.{none-some, same_Some}
use Rattle.command.specs.Views.{item_of, texts_of}
use Rattle.elf_model.specs.Inputs.Command.{Item, Plan}
use Rattle.elf_model.specs.Inputs.Files.{File}
use Rattle.elf_model.specs.Inputs.Opening.{opened_from, opened_item}
use Rattle.opening.specs.Held.{all_files}
use Rattle.opening.proofs.OpenedLaws.{opened_is}
use Rattle.explain.proofs.files.wrong_item.Goals as goal

-- an item of a plan, opened by itself, is that of the opened plan
opened_at :
    (files : List File) (directories : List (List ℕ)) (k i n : ℕ) (items : List Item) (item : Item) → slice_get items i ≡ Some item → n ≡ k + i →
    slice_get (opened_from files directories k items) i ≡ Some (opened_item files directories n item)
opened_at files directories k i n [] item there is = absurd (none-some item there)
opened_at files directories k zero n (x ∷ xs) item there is =
    let number : k ≡ n = omega (arith, is) in
    rw (number, same_Some x item there) refl
opened_at files directories k (suc i) n (x ∷ xs) item there is =
    opened_at files directories (k + 1) i n xs item there (omega (arith, is))

pub returns : goal.returns
returns c =
    let files = all_files c.args.files.now in
    let plan = c.args.plan.now in
    let i = c.args.i in
    let directories = ap texts_of c.deref.ensures.value ∙ ap (λ (p : Plan). p.directories) c.plan.view_is in
    let found = rw (c.in-Some-2.is, directories) at c.in_ok-path.ensures.found in
    let is = opened_is files plan.directories i (item_of c.in-Some.item.now) _ found in
    c.bad_archive.ensures files plan (opened_at files plan.directories 0 i i plan.items _ c.in-Some.ensures (omega arith) ∙ ap Some is.0)
