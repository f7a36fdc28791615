use Rattle.std.proofs.Common.{◌≡◌, ◌+◌, ◌∷◌, ap, drop, false, sym, ◌∙◌}
use Rattle.std.specs.Prelude.{All}
use Rattle.std.proofs.lemmas.Bool.{false≢true}
use Rattle.std.proofs.lemmas.List.{at_drop_more}
use Rattle.check_load.specs.Views.{loaded_view, loaded_views}
use Rattle.check_load.specs.declared.loaded.Loaded.{Loaded}
use Rattle.elf_model.specs.Link.Loading.{LoadedObject}
use Rattle.judge_model.specs.RightForeign.{is_lto}
use Rattle.link_fields.proofs.Lists.{left_more, left_stop}
use Rattle.input_judge.proofs.compiled.are_compiled.Goals as goal

abbrev IsCompiled : LoadedObject → Type 0
IsCompiled o = is_lto o ≡ false

pub returns-then-not-is_compiled : goal.returns-then-not-is_compiled
returns-then-not-is_compiled c =
    let xs = c.args.objects.now in
    let i = c.loop-loaded.loaded-index in
    let x = c.loaded-item.result in
    let rest = loaded_views (drop (i + 1) xs) in
    let parts : loaded_views (drop i xs) ≡ loaded_view x ∷ rest =
    at_drop_more loaded_views xs i x c.loop-loaded-test.true ∙ ap (λ (y : Loaded). loaded_view y ∷ rest) (sym c.loaded-item.is) in (
      λ t. absurd (false≢true t),
      λ all. absurd
          (left_stop IsCompiled (All IsCompiled (loaded_views xs)) (loaded_views (drop i xs)) (loaded_view x) rest parts
          (λ h. false≢true (sym c.if-not-is_compiled.true ∙ c.is_compiled.ensures.1 h)) c.loop-loaded.invariant all),
    )

pub loop-loaded-preserved : goal.loop-loaded-preserved
loop-loaded-preserved c =
    let xs = c.args.objects.now in
    let i = c.loop-loaded.loaded-index in
    let x = c.loaded-item.result in
    let rest = loaded_views (drop (i + 1) xs) in
    let parts : loaded_views (drop i xs) ≡ loaded_view x ∷ rest =
    at_drop_more loaded_views xs i x c.loop-loaded-test.true ∙ ap (λ (y : Loaded). loaded_view y ∷ rest) (sym c.loaded-item.is) in
    left_more IsCompiled (All IsCompiled (loaded_views xs)) (loaded_views (drop i xs)) (loaded_view x) rest parts
    (c.is_compiled.ensures.0 c.if-not-is_compiled.false) c.loop-loaded.invariant
