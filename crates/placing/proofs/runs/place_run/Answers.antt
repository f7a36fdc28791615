use Rattle.std.proofs.Common.{◌+◌, ◌≤◌, ◌^◌, ℕ, get_or, arith, refl, subst, sym}
use Rattle.elf_model.proofs.Listed.{All-unmap}
use Rattle.placing.specs.Limits.{HasSmallAlignment}
use Rattle.placing.specs.Views.{borrowed_view, piece_view}
use Rattle.placing.specs.declared.piece.Piece.{Piece}
use Rattle.placing.proofs.RunSteps.{behind, end_more, first_left, limit_more, limit_stop, no_borrowed, placed_more}
use Rattle.placing.proofs.runs.place_run.Goals as goal

pub address_of-requires-clause-aligned : goal.address_of-requires-clause-aligned
address_of-requires-clause-aligned c = All-unmap HasSmallAlignment borrowed_view c.args.pieces.now c.requires.aligned c.loop-piece.piece-index _ c.loop-piece-test.true

pub returns-in_default-clause-fault : goal.returns-in_default-clause-fault
returns-in_default-clause-fault c =
    let p : Piece = (get_or c.args.pieces.now c.loop-piece.piece-index no_borrowed).now in
    limit_stop _ c.loop-piece.next p _ _ (first_left c.args.pieces.now c.loop-piece.piece-index no_borrowed c.loop-piece-test.true)
    c.in_default.ensures.place c.loop-piece.invariant.limit

pub loop-piece-preserved : goal.loop-piece-preserved
loop-piece-preserved c =
    let p : Piece = (get_or c.args.pieces.now c.loop-piece.piece-index no_borrowed).now in
    let first = first_left c.args.pieces.now c.loop-piece.piece-index no_borrowed c.loop-piece-test.true in
    record {
      above = let a = c.loop-piece.invariant.above in let b = c.in-Some.ensures.above in omega (arith, a, b);
      low =
          let end : c.in-Some.at + p.header.sh_size ≤ 2 ^ 46 =
          subst (λ (n : ℕ). n ≤ 2 ^ 46) (sym (behind c.loop-piece.next c.in-Some.at (piece_view p) c.in-Some.ensures.place.1)) c.in-Some.ensures.place.0 in
          omega (arith, end);
      done =
          placed_more c.loop-piece.out.items c.push.new.self.items (record { at = c.in-Some.at; piece = p }) c.loop-piece.next c.in-Some.at p _ _ _
          c.in_ok-push.ensures.items refl refl c.in-Some.ensures.place.1 first c.loop-piece.invariant.done;
      end = end_more c.loop-piece.next c.in-Some.at p _ _ _ c.in-Some.ensures.place.1 first c.loop-piece.invariant.end;
      limit = limit_more _ c.loop-piece.next c.in-Some.at p _ _ c.in-Some.ensures.place.1 first c.in-Some.ensures.place.0 c.loop-piece.invariant.limit;
    }
