use Rattle.std.proofs.Common.{refl, subst, sym}
use Rattle.std.specs.Prelude.{IfOk, IsSome}
use Rattle.elf_model.specs.Image.RightLink.{Holds, HoldsBefore, Subject}
use Rattle.elf_model.specs.declared.verdict.Clause.TheVariants.{C3, C4, C5}
use Rattle.checker.specs.Judged.{Judges}
use Rattle.checker.proofs.Clauses.{before_next}
use Rattle.checker.proofs.verdict.judge_loaded.Goals as goal

pub judge_placed-requires : goal.judge_placed-requires
judge_placed-requires g c = λ k.
    let s = c.args.loaded.now in
    let third = before_next s C3 C4 refl c.requires.clauses (c.in_ok-holds.ensures.0 c.if-not-branch.false) in
    let fourth = subst (Holds C4) c.link-link.ensures (c.in_ok-memory.ensures.image.0 (subst IsSome (sym c.in-Some.is) refl)) in
    let clauses = subst (HoldsBefore C5) (sym c.in_ok-placed.ensures) (before_next s C4 C5 refl third fourth) in
    let before = subst (λ (t : Subject). g.O.Observer.Saw t c.args.observer.now) (sym c.in_ok-placed.ensures) c.requires.before in
    ((refl, tt), (clauses, before))

pub returns-clause-verdict : goal.returns-clause-verdict
returns-clause-verdict g c =
    subst (λ (s : Subject). IfOk c.judge_placed.result (λ v. Judges v s)) c.in_ok-placed.ensures c.judge_placed.ensures.verdict
