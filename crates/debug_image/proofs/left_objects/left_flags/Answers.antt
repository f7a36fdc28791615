use Rattle.std.proofs.Common.{◌++◌, ◌∷◌, [], ◌+◌, ◌∙◌, Bool, List, ap, drop, sym}
use Rattle.elf_model.specs.Link.Loading.{LoadedObject}
use Rattle.search.specs.Views.{loaded_view, loaded_views}
use Rattle.resolve.proofs.Walks.{next_loaded}
use Rattle.debug_image.specs.DebugSections.{flags_from, is_left_out}
use Rattle.debug_image.proofs.left_objects.left_flags.Goals as goal

pub loop-loaded-preserved : goal.loop-loaded-preserved
loop-loaded-preserved c =
    let os = c.args.objects.now in
    let all = loaded_views os in
    let k = c.loop-loaded.loaded-index in
    let d = c.loaded-item.result in
    let rest = drop (k + 1) all in
    let flags = c.loop-loaded.flags.items in
    ap (λ (fs : List Bool). flags_from all fs rest)
    (c.in_ok-push.ensures.items
    ∙ ap (λ (b : Bool). flags ++ b ∷ [])
    (c.is_left_out-left.ensures all c.requires ∙ ap (λ (fs : List Bool). is_left_out all fs (loaded_view d)) c.deref.ensures.value))
    ∙ (ap (λ (xs : List LoadedObject). flags_from all flags xs) (sym (next_loaded os k d c.loop-loaded-test.true c.loaded-item.is)) ∙ c.loop-loaded.invariant)
