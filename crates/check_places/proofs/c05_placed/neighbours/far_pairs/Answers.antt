use Rattle.std.proofs.Common.{◌∙◌, ap, subst, sym}
use Rattle.std.specs.Prelude.{All}
use Rattle.std.proofs.lemmas.List.Elements.{All-push}
use Rattle.check_link.specs.Views.{placed_views}
use Rattle.check_link.specs.declared.things.Placed.{Placed}
use Rattle.check_places.specs.Far.{AreFar}
use Rattle.check_places.specs.Neighbours.{last_known}
use Rattle.check_places.proofs.NearSteps.{is_next, placed_next}
use Rattle.check_places.proofs.c05_placed.neighbours.far_pairs.Goals as goal
use Rattle.check_places.proofs.c05_placed.neighbours.far_pairs.Goals.{in-Some+in_ok-push, in_default}

pub far_pair-requires : goal.far_pair-requires
far_pair-requires c =
    is_next c.args.placed.now c.loop-j.j _ c.loop-j-test.true c.output_section.result (last_known c.loop-j.lasts) c.in_ok-last.last
    c.output_section.ensures c.loop-j.invariant.lasts c.in_ok-last.ensures.before

pub loop-j-preserved : goal.loop-j-preserved
loop-j-preserved c =
    let P : Placed × Placed → Type 0 = λ p. AreFar (placed_views c.args.placed.now) p.0 p.1 in
    let far : All P c.match-far_pair.pairs.items =
    elim c.match-far_pair.branch [
      | in-Some+in_ok-push w ↦
          subst (All P) (sym (ap (λ v. v.items) w.pairs-is ∙ w.in_ok-push.ensures.items))
          (All-push P c.loop-j.pairs.items w.in-Some.pair c.loop-j.invariant.far w.in-Some.ensures)
      | in_default w ↦ subst (All P) (sym (ap (λ v. v.items) w.pairs-is)) c.loop-j.invariant.far
    ] in record {
      lasts =
          placed_next c.args.placed.now c.loop-j.j _ c.loop-j-test.true c.output_section.result (last_known c.loop-j.lasts) (last_known c.replace.new.self)
          c.output_section.ensures c.in_ok-last.ensures.known c.loop-j.invariant.lasts;
      far = far;
    }
