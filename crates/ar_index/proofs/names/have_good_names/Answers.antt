use Rattle.std.proofs.Common.{◌+◌, ℕ, Bool, true, take, refl, sym, subst, ◌∙◌, arith}
use Rattle.std.proofs.lemmas.Bool.{false≢true}
use Rattle.elf_model.specs.Inputs.ArchiveFile.{long_names}
use Rattle.ar_index.proofs.NameSteps.{AreNamedSoFar, all_named, names_again, names_more, no_name, none_so_far, one_more, read_is}
use Rattle.ar_index.proofs.names.have_good_names.Goals as goal
use Rattle.ar_index.proofs.names.have_good_names.Goals.{then-is_long_names+else-has_long_names, else-is_long_names}

pub loop-member-init : goal.loop-member-init
loop-member-init c = none_so_far c.args.members.now

pub returns-then-not-is_named : goal.returns-then-not-is_named
returns-then-not-is_named c =
    let so_far = c.loop-member.invariant in (
      λ e. absurd (false≢true e),
      λ good. absurd (no_name c.args.members.now c.loop-member.member-index c.loop-member.limit c.loop-member.has_long_names c.member-item.result c.loop-member-test.true (read_is c.args.members.now c.loop-member.member-index c.member-item.result c.loop-member-test.true c.member-item.is) so_far
          (λ named. false≢true (sym c.if-not-is_named.true ∙ (c.is_named.ensures (long_names (take c.loop-member.member-index c.args.members.now)) so_far.limited).1 named)) good),
    )

pub loop-member-preserved : goal.loop-member-preserved
loop-member-preserved c =
    let ms = c.args.members.now in
    let i = c.loop-member.member-index in
    let so_far = c.loop-member.invariant in
    elim c.if-is_long_names.branch [
      | then-is_long_names+else-has_long_names w ↦
          let more = names_more ms i c.loop-member.limit c.loop-member.has_long_names c.member-item.result c.loop-member-test.true (read_is c.args.members.now c.loop-member.member-index c.member-item.result c.loop-member-test.true c.member-item.is) so_far
          w.bytes.result.now w.text_limit-limit.result w.if-has_long_names.false (sym c.is_long_names.ensures ∙ w.if-is_long_names.true) w.bytes.ensures w.text_limit-limit.ensures
          in
          subst (λ (b : Bool). AreNamedSoFar ms (i + 1) c.if-is_long_names.limit b) (sym w.has_long_names-is)
          (subst (λ (n : ℕ). AreNamedSoFar ms (i + 1) n true) (sym w.limit-is) more)
      | else-is_long_names w ↦
          let named = (c.is_named.ensures (long_names (take i ms)) so_far.limited).0 c.if-not-is_named.false in
          let more = one_more ms i c.loop-member.limit c.loop-member.has_long_names c.member-item.result c.loop-member-test.true (read_is c.args.members.now c.loop-member.member-index c.member-item.result c.loop-member-test.true c.member-item.is) so_far
          (sym c.is_long_names.ensures ∙ w.if-is_long_names.false) named
          in
          subst (λ (b : Bool). AreNamedSoFar ms (i + 1) c.if-is_long_names.limit b) (sym w.has_long_names-is)
          (subst (λ (n : ℕ). AreNamedSoFar ms (i + 1) n c.loop-member.has_long_names) (sym w.limit-is) more)
    ]

pub returns-then-has_long_names : goal.returns-then-has_long_names
returns-then-has_long_names c = (
  λ e. absurd (false≢true e),
  λ good. absurd (names_again c.args.members.now c.loop-member.member-index c.loop-member.limit c.loop-member.has_long_names c.member-item.result c.loop-member-test.true (read_is c.args.members.now c.loop-member.member-index c.member-item.result c.loop-member-test.true c.member-item.is)
      c.loop-member.invariant c.if-has_long_names.true (sym c.is_long_names.ensures ∙ c.if-is_long_names.true) good),
)

pub returns : goal.returns
returns c =
    (λ e. all_named c.args.members.now c.loop-member.member-index c.loop-member.limit c.loop-member.has_long_names (omega arith) c.loop-member.invariant, λ good. refl)
