use Rattle.std.proofs.Common.{rules, arith}
use Rattle.std.proofs.lemmas.List.Sorted.{IsNonDecreasingBy-from_sort_by_key}
use Rattle.linker.specs.declared.name_order.Keyed.{Keyed}
use Rattle.linker.proofs.LevelLaws.{Cut, all_done, all_left, end_within, next_alike, next_done}
use Rattle.linker.proofs.name_order.+sort_level.Goals as goal

pub loop-from-init : goal.loop-from-init
loop-from-init t c = (
  omega arith,
  all_left c.args.names (c.args.offset) c.args.run.now c.number.new.run c.sort_unstable_by_key.new.self c.number.ensures.positions c.number.ensures.keys
      c.sort_unstable_by_key.ensures.permutation
      (IsNonDecreasingBy-from_sort_by_key (λ (k : Keyed). k.key) c.sort_unstable_by_key.new.self c.sort_unstable_by_key.ensures.sorted (λ a r q k. search rules)),
)

pub sort_level-requires : goal.sort_level-requires
sort_level-requires t c =
    let cut : Cut c.loop-from.run c.split_at_mut-rest.result.0.now c.split_at_mut-rest.result.1.now c.split_at_mut-alike.result.0.now c.split_at_mut-alike.result.1.now c.loop-from.from c.run_end-to.result = record {
      whole = c.split_at_mut-rest.ensures.value;
      front = c.split_at_mut-rest.ensures.front_len;
      rest = c.split_at_mut-alike.ensures.value;
      long = c.split_at_mut-alike.ensures.front_len;
      some = c.run_end-to.ensures.behind;
    } in
    let here =
    next_alike c.args.names c.args.offset c.args.run.now c.loop-from.run _ _ _ _ c.loop-from.from c.run_end-to.result cut c.requires c.loop-from.invariant.1
    c.run_end-to.ensures.same in
    (omega (arith, c.decreases, c.if-levels-eq0.false), c.next_offset-next.ensures here)

pub loop-from-preserved : goal.loop-from-preserved
loop-from-preserved t c =
    let cut : Cut c.loop-from.run c.split_at_mut-rest.result.0.now c.split_at_mut-rest.result.1.now c.split_at_mut-alike.result.0.now c.split_at_mut-alike.result.1.now c.loop-from.from c.run_end-to.result = record {
      whole = c.split_at_mut-rest.ensures.value;
      front = c.split_at_mut-rest.ensures.front_len;
      rest = c.split_at_mut-alike.ensures.value;
      long = c.split_at_mut-alike.ensures.front_len;
      some = c.run_end-to.ensures.behind;
    } in (
      end_within _ _ _ _ _ _ _ _ cut c.sort_level.auto.run,
      next_done c.args.names (c.args.offset) c.args.run.now c.loop-from.run _ _ _ _ _ c.loop-from.from c.run_end-to.result cut c.sort_level.auto.run c.requires
          c.loop-from.invariant.1 c.run_end-to.ensures.same c.run_end-to.ensures.last (record { moved = c.sort_level.ensures.moved; rising = c.sort_level.ensures.rising }),
    )

pub returns : goal.returns
returns t c = all_done c.args.names (c.args.offset) c.args.run.now c.loop-from.run c.loop-from.from c.loop-from-test.false c.loop-from.invariant.1
