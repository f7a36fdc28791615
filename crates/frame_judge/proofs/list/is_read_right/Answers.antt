use Rattle.std.proofs.Common.{◌∙◌, List, ℕ, sym, subst}
use Rattle.std.specs.Prelude.{◌+◌, All, Contains, IsPermutation}
use Rattle.std.proofs.lemmas.Bool.{false≢true}
use Rattle.std.proofs.lemmas.Result.{IfOk-weaker}
use Rattle.judge_model.specs.Frames.{line_addresses, records_of}
use Rattle.judge_model.specs.declared.certificate.MergedLine.{MergedLine}
use Rattle.frame_judge.proofs.ListLaws.{listed}
use Rattle.frame_judge.proofs.list.is_read_right.Goals as goal

pub returns-then-not-are_listed : goal.returns-then-not-are_listed
returns-then-not-are_listed c =
    let ys = c.in_ok-addresses.addresses.items in
    let same = subst (λ (ms : List MergedLine). IsPermutation (line_addresses ms) ys) c.lines.ensures c.in_ok-addresses.ensures.same in
    let each = listed (line_addresses c.args.lines.now) ys c.deref.result.now c.args.address (records_of c.args.list.now) same c.deref.ensures.value in (
      λ e. absurd (false≢true e),
      λ h. absurd (false≢true (sym c.if-not-are_listed.true ∙ c.are_listed.ensures.1 (each.1 h.each))),
    )

pub returns-then-not-is_ended_as : goal.returns-then-not-is_ended_as
returns-then-not-is_ended_as c = (
  λ e. absurd (false≢true e),
  λ h. absurd (false≢true (sym c.if-not-is_ended_as.true ∙ c.is_ended_as.ensures.1 h.ended)),
)

pub returns : goal.returns
returns c =
    let ys = c.in_ok-addresses.addresses.items in
    let same = subst (λ (ms : List MergedLine). IsPermutation (line_addresses ms) ys) c.lines.ensures c.in_ok-addresses.ensures.same in
    let each = listed (line_addresses c.args.lines.now) ys c.deref.result.now c.args.address (records_of c.args.list.now) same c.deref.ensures.value in
    IfOk-weaker c.are_copied.result _ _
    (λ b h. (
      λ t. record {
        each = each.0 (c.are_listed.ensures.0 c.if-not-are_listed.false);
        copies = h.0 t;
        ended = c.is_ended_as.ensures.0 c.if-not-is_ended_as.false;
      },
      λ right. h.1 right.copies,
    ))
    c.are_copied.ensures
