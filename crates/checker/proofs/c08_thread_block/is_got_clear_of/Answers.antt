use Rattle.std.proofs.Common.{◌∙◌, [], List, ap, subst, sym}
use Rattle.std.specs.Prelude.{◌↔◌, All, IsTrue}
use Rattle.std.proofs.lemmas.List.Elements.{All-cons, All-head, All-nil}
use Rattle.elf_model.specs.Link.Placement.{got_things}
use Rattle.elf_model.specs.Image.RightLink.{IsClearOf}
use Rattle.elf_model.specs.declared.thing.Thing.{Thing}
use Rattle.checker.proofs.c08_thread_block.is_got_clear_of.Goals as goal

pub returns-in-Some : goal.returns-in-Some
returns-in-Some c =
    let thing = c.got_thing.result in
    let Clear : Thing → Type 0 = IsClearOf c.args.start c.args.end in
    subst (λ (ts : List Thing). IsTrue c.is_clear_of.result ↔ All Clear ts) (sym (ap got_things c.in-Some.is ∙ c.got_thing.ensures)) (
      λ e. All-cons Clear thing [] (c.is_clear_of.ensures.0 e) (All-nil Clear),
      λ all. c.is_clear_of.ensures.1 (All-head Clear thing [] all),
    )
