use Rattle.std.proofs.Common.{◌≡◌, false, true, subst, sym}
use Rattle.std.specs.Prelude.{IsSome}
use Rattle.elf_model.specs.Image.RightLink.{Subject}
use Rattle.check_load.specs.Plans.{CanLoad}
use Rattle.checker.proofs.verdict.judge.Goals as goal

pub no-requires-clause-fails : goal.no-requires-clause-fails
no-requires-clause-fails g c =
    λ loaded.
    let can : CanLoad c.args.link.now.files c.args.link.now.plan =
    record { files_there = loaded.files; archives = loaded.archives; indexes = loaded.indexes; objects = loaded.objects; groups = loaded.groups } in
    let some = c.in_ok-named.ensures.some.1 (subst (λ (s : Subject). CanLoad s.files s.plan) (sym c.link.view_is) can) in
    let never : false ≡ true = subst IsSome c.in_default.is some in
    cc
