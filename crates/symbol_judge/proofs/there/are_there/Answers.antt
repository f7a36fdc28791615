use Rattle.std.proofs.Common.{◌∙◌, sym}
use Rattle.std.specs.Prelude.{All}
use Rattle.std.proofs.lemmas.Bool.{false≢true}
use Rattle.elf_model.specs.Link.Resolution.{all_symbols}
use Rattle.check_link.proofs.Walked.{object_more, object_stop}
use Rattle.symbol_judge.specs.There.{IsThere}
use Rattle.symbol_judge.proofs.there.are_there.Goals as goal

pub returns-then-not-are_own_there : goal.returns-then-not-are_own_there
returns-then-not-are_own_there c =
    let P = IsThere c.args.meanings.now.objects c.args.meanings.now.placed c.args.meanings.now.merged c.args.names.now in (
      λ t. absurd (false≢true t),
      λ all. absurd
          (object_stop P (All P (all_symbols c.args.meanings.now.objects)) c.objects-objects.result.now c.loop-k.k c.index-objects-k.result
          c.loop-k-test.true c.index-objects-k.is c.loop-k.invariant
          (λ holds. false≢true (sym c.if-not-are_own_there.true ∙ c.are_own_there.ensures.1 holds)) all),
    )

pub loop-k-preserved : goal.loop-k-preserved
loop-k-preserved c =
    let P = IsThere c.args.meanings.now.objects c.args.meanings.now.placed c.args.meanings.now.merged c.args.names.now in
    object_more P (All P (all_symbols c.args.meanings.now.objects)) c.objects-objects.result.now c.loop-k.k c.index-objects-k.result
    c.loop-k-test.true c.index-objects-k.is c.loop-k.invariant (c.are_own_there.ensures.0 c.if-not-are_own_there.false)
