use Rattle.std.proofs.Common.{◌+◌, ◌%◌, ◌^◌, ◌∙◌, Bool, ℕ, List, ap, arith, cond, drop, sym}
use Rattle.std.proofs.Math.Nat.{mod-add-mod}
use Rattle.elf_model.specs.Link.Loading.{LoadedObject}
use Rattle.resolve.proofs.Walks.{next_loaded}
use Rattle.search.specs.Views.{loaded_view, loaded_views}
use Rattle.debug_image.specs.Reports.{left_sections, sections_in}
use Rattle.debug_image.proofs.reports.left_sections.Goals as goal

pub loop-k-preserved : goal.loop-k-preserved
loop-k-preserved c =
    let os = c.args.objects.now in
    let k = c.loop-k.k in
    let d = c.index-objects-k.result in
    let flags = c.args.flags.now in
    let rest = left_sections flags (k + 1) (drop (k + 1) (loaded_views os)) in
    let x = c.sections_if-count.result in
    let is = c.sections_if-count.ensures ∙ ap (λ (b : Bool). cond b (sections_in (loaded_view d)) 0) c.is_flagged.ensures in
    mod-add-mod (c.loop-k.count + x) (2 ^ 64) rest
    ∙ (ap (λ (n : ℕ). n % 2 ^ 64) (omega arith)
    ∙ (ap (λ (n : ℕ). (c.loop-k.count + (n + rest)) % 2 ^ 64) is
    ∙ (ap (λ (xs : List LoadedObject). (c.loop-k.count + left_sections flags k xs) % 2 ^ 64) (sym (next_loaded os k d c.loop-k-test.true c.index-objects-k.is))
    ∙ c.loop-k.invariant)))
