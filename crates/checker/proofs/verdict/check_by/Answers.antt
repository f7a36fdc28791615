use Rattle.std.proofs.Common.{Ok, Err, Result}
use Rattle.std.specs.Prelude.{IfOk}
use Rattle.elf_model.specs.Inputs.Files.{words_of}
use Rattle.opening.specs.Held.{held_files}
use Rattle.linkmap.specs.Record.{record_of}
use Rattle.checker.proofs.Verdicts.{unread_no, unread_yes, verdict_no, verdict_yes}
use Rattle.checker.proofs.verdict.check_by.Goals as goal

-- where a fact of a result gives another
stronger : {X E : Type 0} (P Q : X → Type 0) (r : Result X E) → IfOk r P → ((x : X) → P x → Q x) → IfOk r Q
stronger P Q (Ok x) p more = more x p
stronger P Q (Err e) p more = p

pub returns-in_default-clause-yes : goal.returns-in_default-clause-yes
returns-in_default-clause-yes c =
    let only = rw c.in_default.is at c.in_ok-plan.ensures.only in
    unread_yes (held_files c.args.parts.now c.args.files.now) (words_of c.args.words.now) c.args.image.now c.args.map.now (λ s r. only s.plan r.plan)

pub returns-in_default-clause-no : goal.returns-in_default-clause-no
returns-in_default-clause-no c =
    let only = rw c.in_default.is at c.in_ok-plan.ensures.only in
    unread_no (held_files c.args.parts.now c.args.files.now) (words_of c.args.words.now) c.args.image.now c.args.map.now (λ s r. only s.plan r.plan)

pub returns-clause-yes : goal.returns-clause-yes
returns-clause-yes c =
    let plan_is = rw c.in-Some.is at c.in_ok-plan.ensures.plan in
    let spells = rw c.in-Some-2.is at c.in_ok-map.ensures.map in
    let only = rw c.in-Some-2.is at c.in_ok-map.ensures.only in
    stronger _ _ c.judge_alone.result c.judge_alone.ensures
    (verdict_yes (held_files c.args.parts.now c.args.files.now) (words_of c.args.words.now) c.args.image.now c.args.map.now c.in-Some.plan (record_of c.in-Some-2.map)
    plan_is spells.0 spells.1 only)

pub returns-clause-no : goal.returns-clause-no
returns-clause-no c =
    let plan_is = rw c.in-Some.is at c.in_ok-plan.ensures.plan in
    let spells = rw c.in-Some-2.is at c.in_ok-map.ensures.map in
    let only = rw c.in-Some-2.is at c.in_ok-map.ensures.only in
    stronger _ _ c.judge_alone.result c.judge_alone.ensures
    (verdict_no (held_files c.args.parts.now c.args.files.now) (words_of c.args.words.now) c.args.image.now c.args.map.now c.in-Some.plan (record_of c.in-Some-2.map)
    plan_is spells.0 spells.1 only)
