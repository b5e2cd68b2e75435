use Rattle.std.proofs.Common.{◌≡◌, ◌≤◌, ◌↔◌, ℕ, Bool, true, false, ◌&&◌, cond, nat_le, Result, Ok, Err, IsOk, OnOk, IfErr, MatchResult, refl, ap, ◌∙◌, arith}
use Rattle.std.proofs.lemmas.Bool.{false≢true}
use Rattle.std.proofs.lemmas.Bool.Decides.{nat_tests}
use Rattle.pcm_base.specs.declared.card.Card.{Ghosts}
use Rattle.pcm_base.specs.declared.reply.Reply.{Reply}
use Rattle.pcm_base.specs.declared.reply.Reply.TheVariants as reply
use Rattle.pcm_base.specs.declared.state.Errno.{Errno}
use Rattle.pcm_base.specs.declared.state.Errno.TheVariants as errno
use Rattle.pcm_base.specs.model.Events.{plan_set}
use Rattle.pcm_base.specs.model.Program.{fails, says}
use Rattle.pcm_base.specs.model.Stream.{Stream}
use Rattle.pcm_stream.specs.declared.substream.Substream.{Substream}
use Rattle.pcm_stream.specs.StandsFor.{StandsFor}
use Rattle.pcm_group.specs.Ended.{IsOwnEnd}
use Rattle.pcm_group.proofs.EndedLemmas.{IsOwnEnd-at, else-is, keeps-itself, keeps-same, then-is}
use Rattle.pcm_group.proofs.OwnLemmas.{Own-says}
use Rattle.pcm_group.proofs.own.fail_at.Goals as goal

-- whether the count lies in the plan
in_plan : (k : ℕ) → 1 ≤ k → k ≤ 64 → (nat_le 1 k && nat_le k 64) ≡ true
in_plan k low high =
    let a : nat_le 1 k ≡ true = grind (arith, nat_tests) in
    let b : nat_le k 64 ≡ true = grind (arith, nat_tests) in
    ap (λ (x : Bool). x && nat_le k 64) a ∙ b

both : (a b : Bool) → (a && b) ≡ true → (a ≡ true) × (b ≡ true)
both true b h = (refl, h)
both false b h = absurd (let no : ⊥ = cc in no)

outside : (k : ℕ) → ((1 ≤ k) × (k ≤ 64) → false ≡ true) → (b : Bool) → (nat_le 1 k && nat_le k 64) ≡ b → (nat_le 1 k && nat_le k 64) ≡ false
outside k never true is =
    let h : nat_le 1 k ≡ true = (both _ _ is).0 in
    let m : nat_le k 64 ≡ true = (both _ _ is).1 in
    let low : 1 ≤ k = grind (arith, nat_tests, h) in
    let high : k ≤ 64 = grind (arith, nat_tests, m) in
    absurd (false≢true (never (low, high)))
outside k _ false is = is

planned_by : {C : Type 0} {g : Ghosts C} (k : ℕ) (s : Stream) (r : Result (Unit {0}) Errno) (q : Reply) (sub : Substream C g) → (IsOk r ↔ ((1 ≤ k) × (k ≤ 64)))
    → OnOk r (StandsFor sub (plan_set k s)) → IfErr r (λ e. (e ≡ errno.Einval) × StandsFor sub s) → MatchResult r (λ _. q ≡ reply.Ok) (λ e. q ≡ reply.Err e)
    → IsOwnEnd s (cond (nat_le 1 k && nat_le k 64) (says reply.Ok (plan_set k s)) (fails errno.Einval s)) q 0 0 sub
planned_by k s (Ok u) q sub range ok einval answer =
    IsOwnEnd-at s (cond (nat_le 1 k && nat_le k 64) (says reply.Ok (plan_set k s)) (fails errno.Einval s)) (says reply.Ok (plan_set k s)) q 0 0 sub
    (then-is (nat_le 1 k && nat_le k 64) (says reply.Ok (plan_set k s)) (fails errno.Einval s) (in_plan k (range.0 refl).0 (range.0 refl).1))
    (Own-says s (plan_set k s) reply.Ok q sub answer (keeps-same s (plan_set k s) refl refl refl) ok)
planned_by k s (Err e) q sub range ok einval answer =
    IsOwnEnd-at s (cond (nat_le 1 k && nat_le k 64) (says reply.Ok (plan_set k s)) (fails errno.Einval s)) (fails errno.Einval s) q 0 0 sub
    (else-is (nat_le 1 k && nat_le k 64) (says reply.Ok (plan_set k s)) (fails errno.Einval s) (outside k range.1 (nat_le 1 k && nat_le k 64) refl))
    (Own-says s s (reply.Err errno.Einval) q sub (answer ∙ ap reply.Err einval.0) (keeps-itself s) einval.1)

pub returns-clause-done : goal.returns-clause-done
returns-clause-done g c client linked s h =
    planned_by c.args.k s c.fail_at.result c.answer.result c.fail_at.new.self c.fail_at.ensures.range (c.fail_at.ensures.ok s h) (c.fail_at.ensures.einval s h) c.answer.ensures.done
