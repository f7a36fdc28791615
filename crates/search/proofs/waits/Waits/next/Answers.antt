use Rattle.std.proofs.Common.{◌∙◌, List, ℕ, ap, refl, subst, sym}
use Rattle.std.specs.List.{find}
use Rattle.std.specs.Prelude.{option_map}
use Rattle.elf_model.specs.Inputs.ArchiveFile.{IndexEntry}
use Rattle.elf_model.specs.Inputs.Opening.{Opened, archive_entries}
use Rattle.search.specs.Loaders.{is_next_of, loaded}
use Rattle.search.specs.Waiting.{NextWait}
use Rattle.search.proofs.WaitLaws.{caught_up, covers_looked, next_waits}
use Rattle.search.proofs.waits.Waits.next.Goals as goal

pub returns-in_default-clause-covers : goal.returns-in_default-clause-covers
returns-in_default-clause-covers g c = c.in_ok-catch_up.ensures.covers c.args.inputs.now c.requires.covers

pub first_next-requires : goal.first_next-requires
first_next-requires g c = λ κs.
    let l = c.args.loader.now in
    let o = c.args.input.now in
    let k = c.args.archive in
    let w = c.catch_up.new.self in
    let all = caught_up l c.args.inputs.now w (c.in_ok-catch_up.ensures.covers c.args.inputs.now c.requires.covers) c.in_ok-catch_up.ensures.seen in (
      (refl, tt),
      (
        c.requires.known,
        subst (λ (n : ℕ). NextWait l n c.in-Some.entries.now k w.waiting) (sym (ap (λ (x : Opened). x.number) c.item-item.ensures))
            (subst (λ (es : List IndexEntry). NextWait l o.number es k w.waiting) (sym c.in-Some.ensures)
            (next_waits l k o w.waiting (all k o c.requires.at) c.requires.searched)),
      ),
    )

pub returns-clause-exact : goal.returns-clause-exact
returns-clause-exact g c =
    let os = loaded c.args.loader.now in
    let plan = c.args.loader.now.plan.now in
    c.first_next.ensures.exact
    ∙ (ap (λ (es : List IndexEntry). option_map (λ e. e.offset) (find (is_next_of plan os c.item-item.result.number) es)) c.in-Some.ensures
    ∙ ap (λ (n : ℕ). option_map (λ e. e.offset) (find (is_next_of plan os n) (archive_entries c.args.input.now.bytes))) (ap (λ (x : Opened). x.number) c.item-item.ensures))

pub returns-clause-covers : goal.returns-clause-covers
returns-clause-covers g c =
    let l = c.args.loader.now in
    let o = c.args.input.now in
    let k = c.args.archive in
    let w = c.first_next.new.waiting in
    covers_looked l c.args.inputs.now c.catch_up.new.self _ (c.in_ok-catch_up.ensures.covers c.args.inputs.now c.requires.covers) k o c.requires.at refl refl
    c.first_next.ensures.others c.requires.searched
    (subst (λ (n : ℕ). NextWait l n (archive_entries o.bytes) k w) (ap (λ (x : Opened). x.number) c.item-item.ensures)
    (subst (λ (es : List IndexEntry). NextWait l c.item-item.result.number es k w) c.in-Some.ensures c.first_next.ensures.wait))
