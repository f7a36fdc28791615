use Rattle.std.proofs.Common.{◌∙◌, ◌||◌, List, ℕ, ap}
use Rattle.std.specs.Str.{bytes_eq}
use Rattle.search.specs.Names.{is_among}
use Rattle.search.proofs.LoaderLaws.{roots_step}
use Rattle.search.proofs.loader.Names.add_roots.Goals as goal

pub loop-root-preserved : goal.loop-root-preserved
loop-root-preserved g c = record {
  noted = c.in_ok-add_root-2.ensures.noted;
  requested = λ n.
      roots_step c.args.undefined.now c.loop-root.root-index _ n c.loop-root.self.requested c.add_root-in-loop-root.new.self.requested _ c.loop-root-test.true
      (λ m.
      c.in_ok-add_root-2.ensures.requested m
      ∙ ap (λ (name : List ℕ). bytes_eq name m || is_among c.loop-root.self.requested m) c.as_bytes-in-loop-root.ensures.value) (c.loop-root.invariant.requested n);
  defined = λ n. c.in_ok-add_root-2.ensures.defined n ∙ c.loop-root.invariant.defined n;
}
