use Rattle.std.proofs.Common.{◌≡◌, Bool, [], false, nat_le, sym, Option, None, Some, Ok, refl, ap, ◌∙◌, arith}
use Rattle.std.proofs.Math.Path.{ap₂}
use Rattle.std.proofs.lemmas.Bool.Decides.{nat_tests}
use Rattle.pcm_base.specs.declared.call.Call.TheVariants as call
use Rattle.pcm_base.specs.declared.call.CallKind.TheVariants as kind
use Rattle.pcm_base.specs.declared.reply.Reply.TheVariants as reply
use Rattle.pcm_base.specs.declared.state.Dir.{Dir}
use Rattle.pcm_base.specs.declared.state.Errno.{Errno}
use Rattle.pcm_base.specs.declared.state.Errno.TheVariants as errno
use Rattle.pcm_base.specs.declared.state.State.{State}
use Rattle.pcm_base.specs.model.Acts.{table}
use Rattle.pcm_base.specs.model.Events.{event, page}
use Rattle.pcm_base.specs.model.Permit.{permit}
use Rattle.pcm_base.specs.model.PointerCalls.{sync_to}
use Rattle.pcm_base.specs.model.Program.{says}
use Rattle.pcm_base.specs.model.Words.{when, ◌then◌}
use Rattle.state_table.specs.Cases.{answer_of}
use Rattle.pcm_group.proofs.EndedLemmas.{IsOwnEnd-at, allowed-is, keeps-same}
use Rattle.pcm_group.proofs.OwnLemmas.{Own-says}
use Rattle.pcm_group.proofs.pointers.sync_ptr.Goals as goal

allowed_by : (o : Option Errno) (u : Unit {0}) → Ok u ≡ answer_of o → o ≡ None
allowed_by None u h = refl
allowed_by (Some e) u h = absurd (let no : ⊥ = cc in no)

pub returns-in-Ok-clause-done : goal.returns-in-Ok-clause-done
returns-in-Ok-clause-done g c client linked s h =
    let p = c.args.p in
    let t = sync_to p s in
    let refusal = (table kind.SyncPtr s then when (nat_le s.setup.boundary p) errno.Einval) in
    let ok = c.in-Ok.ensures.ok s h in
    let cell : permit kind.SyncPtr c.state.result c.dir.result ≡ None = allowed_by (permit kind.SyncPtr c.state.result c.dir.result) _ c.in_default.ensures in
    let allowed : table kind.SyncPtr s ≡ None =
    ap (λ (x : State). permit kind.SyncPtr x s.dir) (sym (c.state.ensures s h)) ∙ ap (λ (x : Dir). permit kind.SyncPtr c.state.result x) (sym (c.dir.ensures s h)) ∙ cell in
    let below : nat_le s.setup.boundary p ≡ false = (let lt = ok.0 in grind (arith, nat_tests, lt)) in
    let none : refusal ≡ None = ap₂ (λ (o : Option Errno) (b : Bool). o then when b errno.Einval) allowed below in
    IsOwnEnd-at s (event (call.SyncPtr p) client linked [] s) (says (reply.Ptrs (page t)) t) (reply.Ptrs c.page.result) 0 0 c.sync.new.self
    (allowed-is refusal s (says (reply.Ptrs (page t)) t) none)
    (Own-says s t (reply.Ptrs (page t)) (reply.Ptrs c.page.result) c.sync.new.self (ap reply.Ptrs (c.page.ensures.page t ok.1)) (keeps-same s t refl refl refl) ok.1)
