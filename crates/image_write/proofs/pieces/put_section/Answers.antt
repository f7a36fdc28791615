use Rattle.std.proofs.Common.{◌≡◌, ◌-◌, ◌∙◌, [], ap, arith, length, sym, ℕ}
use Rattle.std.specs.Prelude.{map}
use Rattle.std.specs.List.{range_with_len}
use Rattle.std.proofs.lemmas.List.{append-nil}
use Rattle.elf_model.specs.Own.OwnLayout.{own_where}
use Rattle.elf_model.specs.Link.WantedBytes.{wanted_byte}
use Rattle.placing.specs.Views.{piece_view}
use Rattle.image_write.proofs.GotBytes.{section_wanted}
use Rattle.image_write.proofs.SectionRuns.{run_end, run_parts}
use Rattle.image_write.proofs.StreamLaws.{grows_are, puts_are}
use Rattle.image_write.proofs.StreamSteps.{towards_end, towards_fault, towards_is, towards_more, towards_nothing}
use Rattle.image_write.proofs.pieces.put_section.Goals as goal

pub loop-from-init : goal.loop-from-init
loop-from-init g c =
    let objects = c.args.patches.now.objects in
    let f : ℕ → ℕ = wanted_byte objects (own_where c.args.patches.now.base objects) (piece_view c.args.piece.now) in
    let size : length c.args.piece.now.bytes.now - 0 ≡ length c.args.piece.now.bytes.now = omega arith in
    record {
      towards = towards_is _ _ _ _ _ (ap (λ (n : ℕ). map f (range_with_len 0 n)) (sym size)) (towards_nothing _ _);
      within = omega arith;
      failed = c.requires.whole;
    }

pub loop-from-preserved : goal.loop-from-preserved
loop-from-preserved g c =
    let objects = c.args.patches.now.objects in
    let f : ℕ → ℕ = wanted_byte objects (own_where c.args.patches.now.base objects) (piece_view c.args.piece.now) in
    let further = c.in_ok-from.ensures.further in
    record {
      towards = towards_more _ _ _ _ _ _ _ c.loop-from.invariant.towards
          (run_parts f c.loop-from.from c.in_ok-from.from (length c.args.piece.now.bytes.now) (omega (arith, further.0)) further.1)
          c.in_ok-from.ensures.grows;
      within = further.1;
      failed = c.in_ok-from.ensures.grows.failed ∙ c.loop-from.invariant.failed;
    }

pub returns-in_err-from : goal.returns-in_err-from
returns-in_err-from g c =
    let objects = c.args.patches.now.objects in
    let p = piece_view c.args.piece.now in
    let f : ℕ → ℕ = wanted_byte objects (own_where c.args.patches.now.base objects) p in
    puts_are _ _ _ _ _
    (ap (λ (n : ℕ). map f (range_with_len 0 n)) c.requires.bytes ∙ section_wanted objects (own_where c.args.patches.now.base objects) p c.requires.other)
    (towards_fault _ _ _ _ _ _ [] _ c.loop-from.invariant.towards (sym (append-nil _)) c.from_residual.ensures.0 c.in_err-from.ensures.breaks)

pub returns : goal.returns
returns g c =
    let objects = c.args.patches.now.objects in
    let p = piece_view c.args.piece.now in
    let f : ℕ → ℕ = wanted_byte objects (own_where c.args.patches.now.base objects) p in
    record {
      grows = grows_are _ _ _ _
          (ap (λ (n : ℕ). map f (range_with_len 0 n)) c.requires.bytes ∙ section_wanted objects (own_where c.args.patches.now.base objects) p c.requires.other)
          (towards_end _ _ _
          (towards_is _ _ _ _ _ (run_end f c.loop-from.from (length c.args.piece.now.bytes.now) c.loop-from-test.false) c.loop-from.invariant.towards));
      breaks = tt;
    }
