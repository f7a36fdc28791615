use Rattle.std.proofs.Common.{◌≡◌, ◌∙◌, ◌+◌, [], List, ℕ, refl}
use Rattle.std.specs.Prelude.{Err, Ok, OnErr, OnOk, Result}
use Rattle.image_write.specs.Streams.{Puts, Stream, Took, TookPart}
use Rattle.image_write.proofs.Written.{took_all, took_part}
use Rattle.image_write.proofs.stream.put_all.Goals as goal

-- what a device took of bytes that are put straight
took : {X E : Type 0} (s u : Stream) (bytes : List ℕ) (r : Result X E) → s.held ≡ [] → u.held ≡ [] → Puts s bytes r u → OnOk r (Took s.told bytes u.told)
took s u bytes (Ok x) before after p = took_all s u bytes before after p.grows
took s u bytes (Err e) before after p = tt

part : {X E : Type 0} (s u : Stream) (bytes : List ℕ) (r : Result X E) → s.held ≡ [] → Puts s bytes r u → OnErr r (TookPart s.told bytes u.told)
part s u bytes (Ok x) before p = tt
part s u bytes (Err e) before p = took_part s u bytes before p.breaks

kept : {X E : Type 0} (s u : Stream) (bytes : List ℕ) (r : Result X E) → s.failed ≡ 0 → Puts s bytes r u → OnOk r (u.failed ≡ 0)
kept s u bytes (Ok x) whole p = p.grows.failed ∙ whole
kept s u bytes (Err e) whole p = tt

failure : {X E : Type 0} (s u : Stream) (bytes : List ℕ) (r : Result X E) → Puts s bytes r u → OnErr r (u.failed ≡ s.failed + 1)
failure s u bytes (Ok x) p = tt
failure s u bytes (Err e) p = p.breaks.failed

pub returns-clause-took : goal.returns-clause-took
returns-clause-took g c = took _ _ _ _ refl refl c.hand.ensures

pub returns-clause-kept : goal.returns-clause-kept
returns-clause-kept g c = kept _ _ _ _ c.requires c.hand.ensures

pub returns-clause-part : goal.returns-clause-part
returns-clause-part g c = part _ _ _ _ refl c.hand.ensures

pub returns-clause-failure : goal.returns-clause-failure
returns-clause-failure g c = failure _ _ _ _ c.hand.ensures
