use Rattle.std.proofs.Common.{◌≡◌, ℕ, true, List, length, sym, ◌∙◌, ap, subst}
use Rattle.pcm_base.specs.declared.call.Call.{Call}
use Rattle.pcm_base.specs.declared.call.Call.TheVariants as call
use Rattle.pcm_base.specs.declared.ids.ClientId.{ClientId}
use Rattle.pcm_base.specs.declared.votes.Acted.{Acted}
use Rattle.pcm_base.specs.declared.sleeper.Sleeper.{Sleeper}
use Rattle.pcm_base.specs.model.Events.{drain, event, go as going}
use Rattle.pcm_base.specs.model.Group.{stream_of}
use Rattle.pcm_base.specs.model.Program.{Program}
use Rattle.pcm_base.specs.model.Transfer.{read as reading, write as writing}
use Rattle.pcm_stream.specs.Members.{members_of}
use Rattle.pcm_group.specs.Bytes.{HasLength, bytes_left}
use Rattle.pcm_group.specs.Ended.{RunsTo}
use Rattle.pcm_group.specs.Waiting.{calls_of, is_free_for}
use Rattle.pcm_group.proofs.AsleepLemmas.{IsEndedBy-at}
use Rattle.pcm_group.proofs.CarryLemmas.{IsEndedBy-told}
use Rattle.pcm_group.proofs.events.waiting_event.Goals as goal

pub drain-requires-clause-few : goal.drain-requires-clause-few
drain-requires-clause-few g c = ap (λ (l : List Acted). length l) c.requires.none

-- the client is free for a call of this kind
free_at_call : (e d : Call) (i : ℕ) (c : ClientId) (ls : List (List Sleeper)) → e ≡ d → is_free_for e i c ls ≡ true → is_free_for d i c ls ≡ true
free_at_call e d i c ls same h = subst (λ (x : Call). is_free_for x i c ls ≡ true) same h

pub drain-requires-clause-free : goal.drain-requires-clause-free
drain-requires-clause-free g c = free_at_call c.args.call (call.Drain c.in-Drain.mode) c.args.place c.args.client (calls_of (members_of c.args.members.now)) c.in-Drain.is c.requires.free

pub write-requires-clause-free : goal.write-requires-clause-free
write-requires-clause-free g c = free_at_call c.args.call (call.Write c.in-Write.layout c.in-Write.mode) c.args.place c.args.client (calls_of (members_of c.args.members.now)) c.in-Write.is c.requires.free

pub read-requires-clause-free : goal.read-requires-clause-free
read-requires-clause-free g c = free_at_call c.args.call (call.Read c.in-Read.layout c.in-Read.mode c.in-Read.n) c.args.place c.args.client (calls_of (members_of c.args.members.now)) c.in-Read.is c.requires.free

pub go-requires-clause-free : goal.go-requires-clause-free
go-requires-clause-free g c = free_at_call c.args.call call.Go c.args.place c.args.client (calls_of (members_of c.args.members.now)) c.in-Go.is c.requires.free

pub returns-in-Go-clause-done : goal.returns-in-Go-clause-done
returns-in-Go-clause-done g c = λ linked k tells xs h long.
    let cl = c.args.client in
    let s = stream_of k xs in
    IsEndedBy-at cl tells (event c.args.call cl linked c.args.io.now s) (going cl c.args.io.now s) k xs c.args.acts.now c.go.new.acts c.go.result.reply c.go.result.first c.go.result.moved (members_of c.go.new.members)
    (ap (λ (e : Call). event e cl linked c.args.io.now s) c.in-Go.is) (c.go.ensures.done k tells xs h)

pub returns-in-Go-clause-bytes : goal.returns-in-Go-clause-bytes
returns-in-Go-clause-bytes g c = λ linked k tells xs b ys h long runs.
    let cl = c.args.client in
    let s = stream_of k xs in
    c.go.ensures.bytes k tells xs b ys h (subst (λ (p : Program). RunsTo tells p k xs c.go.new.acts b ys) (ap (λ (e : Call). event e cl linked c.args.io.now s) c.in-Go.is) runs)
    ∙ sym (ap (λ (e : Call). bytes_left e cl s b c.args.io.now) c.in-Go.is)

pub returns-in-Drain-clause-done : goal.returns-in-Drain-clause-done
returns-in-Drain-clause-done g c = λ linked k tells xs h long.
    let cl = c.args.client in
    let s = stream_of k xs in
    IsEndedBy-told cl tells (event c.args.call cl linked c.args.io.now s) (drain cl c.in-Drain.mode s) k xs c.args.acts.now c.drain.new.acts c.said.result.reply c.drain.result c.said.result.first 0 c.said.result.moved 0 (members_of c.drain.new.members)
    (ap (λ (e : Call). event e cl linked c.args.io.now s) c.in-Drain.is) c.said.ensures.reply c.said.ensures.first c.said.ensures.moved (c.drain.ensures.done k tells xs h)

pub returns-in-Drain-clause-bytes : goal.returns-in-Drain-clause-bytes
returns-in-Drain-clause-bytes g c = λ linked k tells xs b ys h long runs. sym (ap (λ (e : Call). bytes_left e c.args.client (stream_of k xs) b c.args.io.now) c.in-Drain.is)

pub returns-in-Write-clause-done : goal.returns-in-Write-clause-done
returns-in-Write-clause-done g c = λ linked k tells xs h long.
    let cl = c.args.client in
    let s = stream_of k xs in
    IsEndedBy-at cl tells (event c.args.call cl linked c.args.io.now s) (writing cl c.in-Write.layout c.in-Write.mode c.args.io.now s) k xs c.args.acts.now c.write.new.acts c.write.result.reply c.write.result.first c.write.result.moved (members_of c.write.new.members)
    (ap (λ (e : Call). event e cl linked c.args.io.now s) c.in-Write.is) (c.write.ensures.done k tells xs h)

pub returns-in-Write-clause-bytes : goal.returns-in-Write-clause-bytes
returns-in-Write-clause-bytes g c = λ linked k tells xs b ys h long runs.
    let cl = c.args.client in
    let s = stream_of k xs in
    c.write.ensures.bytes k tells xs b ys h (subst (λ (p : Program). RunsTo tells p k xs c.write.new.acts b ys) (ap (λ (e : Call). event e cl linked c.args.io.now s) c.in-Write.is) runs)
    ∙ sym (ap (λ (e : Call). bytes_left e cl s b c.args.io.now) c.in-Write.is)

pub returns-in-Read-clause-done : goal.returns-in-Read-clause-done
returns-in-Read-clause-done g c = λ linked k tells xs h long.
    let cl = c.args.client in
    let s = stream_of k xs in
    IsEndedBy-at cl tells (event c.args.call cl linked c.args.io.now s) (reading cl c.in-Read.layout c.in-Read.mode c.in-Read.n s) k xs c.args.acts.now c.read.new.acts c.read.result.reply c.read.result.first c.read.result.moved (members_of c.read.new.members)
    (ap (λ (e : Call). event e cl linked c.args.io.now s) c.in-Read.is) (c.read.ensures.done k tells xs h (subst (λ (e : Call). HasLength e c.args.io.now s) c.in-Read.is long))

pub returns-in-Read-clause-bytes : goal.returns-in-Read-clause-bytes
returns-in-Read-clause-bytes g c = λ linked k tells xs b ys h long runs.
    let cl = c.args.client in
    let s = stream_of k xs in
    c.read.ensures.bytes k tells xs b ys h (subst (λ (e : Call). HasLength e c.args.io.now s) c.in-Read.is long)
    (subst (λ (p : Program). RunsTo tells p k xs c.read.new.acts b ys) (ap (λ (e : Call). event e cl linked c.args.io.now s) c.in-Read.is) runs)
    ∙ sym (ap (λ (e : Call). bytes_left e cl s b c.args.io.now) c.in-Read.is)

pub returns-in-Drain-clause-cards : goal.returns-in-Drain-clause-cards
returns-in-Drain-clause-cards g c = c.drain.ensures.cards
