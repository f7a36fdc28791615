use Rattle.std.proofs.Common.{◌≡◌, ◌∙◌, List, Option, ap, subst, sym}
use Rattle.std.specs.Prelude.{All, SomeIff}
use Rattle.std.proofs.lemmas.Bool.{false≢true}
use Rattle.check_link.specs.Views.{piece_views}
use Rattle.elf_model.specs.Link.Pieces.{Piece}
use Rattle.judge_model.specs.Frames.{IsReadable, IsWholeLine}
use Rattle.judge_model.specs.Links.{ForeignLink}
use Rattle.judge_model.specs.declared.certificate.MergedLine.{MergedLine}
use Rattle.link_judge.proofs.inputs.are_records_read.Goals as goal

pub returns-then-not-are_lines_whole : goal.returns-then-not-are_lines_whole
returns-then-not-are_lines_whole c =
    let l = c.args.loaded.now in
    let ps = piece_views c.args.framed.now in
    let read = subst (λ (o : Option (List Piece)). SomeIff o (All IsReadable ps) ps) c.in-Some.is c.in_ok-sections.ensures in
    let lines = c.deref.ensures.value ∙ ap (λ (x : ForeignLink). x.certificate.frames) (c.behind-loaded.view_is ∙ c.claim.ensures) in (
      λ e. absurd (false≢true e),
      λ r. absurd
          (false≢true
          (sym c.if-not-are_lines_whole.true
          ∙ c.are_lines_whole.ensures.1
          (subst (λ (ms : List MergedLine). All (IsWholeLine c.in-Some.sections) ms) (sym lines)
          (subst (λ (qs : List Piece). All (IsWholeLine qs) l.certificate.frames) (sym (read.1 ∙ c.requires)) r.lines)))),
    )
