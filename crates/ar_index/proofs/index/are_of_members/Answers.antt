use Rattle.std.proofs.Common.{◌≡◌, ◌+◌, ◌<◌, nat_eq, ℕ, true, IfSome, List, None, Option, Some, drop, get_or, length, subst, sym}
use Rattle.std.specs.Prelude.{All, IsSome}
use Rattle.std.specs.Option.{option_eq}
use Rattle.std.proofs.lemmas.Bool.{eqb-true, false≢true}
use Rattle.elf_model.specs.Inputs.ArchiveFile as archive
use Rattle.elf_model.proofs.Rests.{Left, all_more}
use Rattle.ar_index.proofs.index.are_of_members.Goals as goal

module _ (members : List archive.Member) where
  abbrev IsOfMember : ℕ → Type 0
  IsOfMember offset = IsSome (archive.data_of members offset)

  -- an offset that is known already
  known_so : (known : Option ℕ) (offset : ℕ) → true ≡ option_eq (λ (m n : ℕ). nat_eq m n) known (Some offset) → IfSome known IsOfMember → IsOfMember offset
  known_so None offset same is = absurd (false≢true (sym same))
  known_so (Some k) offset same is = subst IsOfMember (eqb-true k offset (sym same)) is

  more :
      (entries : List archive.IndexEntry) (i : ℕ) (e : archive.IndexEntry) → i < length entries → e ≡ get_or entries i e → IsOfMember e.offset →
      Left (All (λ (x : archive.IndexEntry). IsOfMember x.offset) entries) (All (λ (x : archive.IndexEntry). IsOfMember x.offset) (drop i entries)) →
      Left (All (λ (x : archive.IndexEntry). IsOfMember x.offset) entries) (All (λ (x : archive.IndexEntry). IsOfMember x.offset) (drop (i + 1) entries))
  more entries i e within is here left =
      all_more (All (λ (x : archive.IndexEntry). IsOfMember x.offset) entries) (λ (x : archive.IndexEntry). IsOfMember x.offset) entries i e within
      (subst (λ (x : archive.IndexEntry). IsOfMember x.offset) is here) left

pub loop-entry-preserved-then-eq : goal.loop-entry-preserved-then-eq
loop-entry-preserved-then-eq c =
    let members = c.args.members.now in
    let here = known_so members c.loop-entry.known c.offset-offset.result (c.if-eq.ensures) c.loop-entry.invariant.known in
    record {
      known = c.loop-entry.invariant.known;
      left =
          more members c.args.entries.now c.loop-entry.entry-index c.entry-item.result c.loop-entry-test.true c.entry-item.is
          (subst (λ (n : ℕ). IsSome (archive.data_of members n)) c.offset-offset.ensures here) c.loop-entry.invariant.left;
    }

pub loop-entry-preserved : goal.loop-entry-preserved
loop-entry-preserved c =
    let members = c.args.members.now in
    let here : IsSome (archive.data_of members c.offset-offset.result) = subst (λ (o : Option (List ℕ)). IsSome o) c.data_at.ensures (c.if-is_none.ensures) in
    record {
      known = here;
      left =
          more members c.args.entries.now c.loop-entry.entry-index c.entry-item.result c.loop-entry-test.true c.entry-item.is
          (subst (λ (n : ℕ). IsSome (archive.data_of members n)) c.offset-offset.ensures here) c.loop-entry.invariant.left;
    }
