use Rattle.std.proofs.Common.{◌∙◌, ap, subst, sym, Option}
use Rattle.std.specs.Prelude.{◌↔◌, IfOk, IfSome, IsTrue}
use Rattle.elf_model.specs.Image.RightLink.{HoldsGot, Subject, objects_of, where_of}
use Rattle.elf_model.specs.declared.link_map.GotLine.{GotLine}
use Rattle.checker.specs.Got.{LiesInImage}
use Rattle.checker.proofs.c07_got.holds_if_there.Goals as goal

pub returns-in-Some : goal.returns-in-Some
returns-in-Some c =
    let s = c.args.bound.now in
    let got = ap (λ (t : Subject). t.map.got) (c.link.view_is ∙ c.link-link.ensures) in
    subst (λ (o : Option GotLine). IfOk c.holds_got.result (λ b. IsTrue b ↔ IfSome o (HoldsGot (objects_of s) (where_of s) s.image))) (sym c.in-Some.is ∙ got)
    c.holds_got.ensures

pub holds_got-requires : goal.holds_got-requires
holds_got-requires c =
    let got = ap (λ (t : Subject). t.map.got) (c.link.view_is ∙ c.link-link.ensures) in
    subst (λ (o : Option GotLine). IfSome o (LiesInImage c.args.bound.now.image)) (sym got ∙ c.in-Some.is) c.requires
