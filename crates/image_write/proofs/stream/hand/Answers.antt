use Rattle.std.proofs.Common.{◌∙◌, ◌++◌, List, ℕ, ap, sym}
use Rattle.std.specs.Prelude.{take}
use Rattle.std.proofs.lemmas.List.{take-append-drop}
use Rattle.image_write.proofs.StreamLaws.{moves_more}
use Rattle.image_write.proofs.stream.hand.Goals as goal

pub loop-rest-preserved : goal.loop-rest-preserved
loop-rest-preserved g c = record {
  moves = moves_more _ _ _ _ _ (take c.in_ok-count.count c.loop-rest.rest.now) _ c.loop-rest.invariant.moves c.in_ok-count.ensures.took
      (sym (take-append-drop c.in_ok-count.count c.loop-rest.rest.now)
      ∙ ap (λ (xs : List ℕ). take c.in_ok-count.count c.loop-rest.rest.now ++ xs) (sym c.split_at.ensures.back));
  failed = c.in_ok-count.ensures.kept;
}
