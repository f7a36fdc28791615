use Rattle.std.proofs.Common.{◌≡◌, ◌∙◌, ◌<◌, ◌≤◌, ap, drop, get_or, length, subst, sym}
use Rattle.std.specs.Prelude.{All}
use Rattle.std.proofs.lemmas.List.{take_all}
use Rattle.linker.specs.NameKeys.{IsKeyed, behind_of, name_key}
use Rattle.linker.specs.declared.name_order.Keyed.{Keyed}
use Rattle.linker.proofs.LevelLaws.{numbered_more, same_places}
use Rattle.linker.proofs.name_order.number.Goals as goal

pub loop-i-preserved : goal.loop-i-preserved
loop-i-preserved c =
    let n = c.args.names in
    let old : Keyed = get_or c.loop-i.run c.loop-i.i (record { key = 0; position = 0 }) in
    let bytes : c.behind.result.now ≡ behind_of n c.args.offset old = c.behind.ensures ∙ ap (drop c.args.offset) c.name_at.ensures in
    let within : c.loop-i.i < length c.loop-i.run = subst (λ m. c.loop-i.i < m) (sym c.loop-i.auto.run) c.loop-i-test.true in
    let made : IsKeyed n c.args.offset (record { key = c.key.result; position = old.position }) = record {
      key = c.key.ensures.key ∙ ap name_key bytes;
      bytes = subst (All (λ b. b < 256)) bytes c.key.ensures.bytes;
    } in
    (same_places c.loop-i.run c.loop-i.i c.key.result (record { key = 0; position = 0 }) ∙ c.loop-i.invariant.0, numbered_more n c.args.offset c.loop-i.run c.loop-i.i (record { key = c.key.result; position = old.position }) within made c.loop-i.invariant.1)

pub returns-clause-keys : goal.returns-clause-keys
returns-clause-keys c =
    subst (All (IsKeyed c.args.names c.args.offset)) (take_all c.loop-i.i c.loop-i.run (subst (λ m. m ≤ c.loop-i.i) (sym c.loop-i.auto.run) c.loop-i-test.false)) c.loop-i.invariant.1
