use Rattle.std.proofs.Common.{◌≡◌, ℕ, ◌<◌, ◌≤◌, Bool, true, false, ◌∙◌, ap, arith}
use Rattle.std.proofs.lemmas.Bool.Decides.{nat_tests}
use Rattle.std.proofs.lemmas.Result.{err_from_is_err_and}
use Rattle.std.specs.Prelude.{nat_lt}
use Rattle.std.specs.declared.option.Option.TheVariants.{Some, None}
use Rattle.pcm_base.specs.declared.state.Errno.TheVariants as errno
use Rattle.pcm_base.specs.model.Words.{when, ◌then◌}
use Rattle.pcm_stream.proofs.ParamsLemmas.{change-refusal, table-none, table-some}
use Rattle.pcm_stream.proofs.substream.Substream.change_allowed.Goals as goal

mapped : (n m : ℕ) (b : Bool) → n ≡ m → 0 < n → (when (nat_lt 0 m) errno.Ebadfd then when b errno.Ebusy) ≡ Some errno.Ebadfd
mapped n m b e h = let k : nat_lt 0 m ≡ true = grind (arith, nat_tests) in ap (λ x. when x errno.Ebadfd then when b errno.Ebusy) k

unmapped : (n m : ℕ) (b : Bool) → n ≡ m → n ≤ 0 → (when (nat_lt 0 m) errno.Ebadfd then when b errno.Ebusy) ≡ when b errno.Ebusy
unmapped n m b e h = let k : nat_lt 0 m ≡ false = grind (arith, nat_tests) in ap (λ x. when x errno.Ebadfd then when b errno.Ebusy) k

pub returns-in_err-permit : goal.returns-in_err-permit
returns-in_err-permit g c s h =
    let p = err_from_is_err_and c.from_residual.result c.from_residual.ensures.1 in
    rw (p.1, p.2) (change-refusal c.args.kind c.args.busy s (Some c.in_err-permit.field-0.0) (table-some c.args.kind c.args.self.now s c.in_err-permit.field-0.0 h.shows c.in_err-permit.ensures))

pub returns-then-mappings-gt0 : goal.returns-then-mappings-gt0
returns-then-mappings-gt0 g c s h =
    change-refusal c.args.kind c.args.busy s None (table-none c.args.kind c.args.self.now s h.shows c.in_ok-permit.ensures)
    ∙ mapped c.mappings.result s.mappings c.args.busy (c.mappings.ensures.model s h) c.if-mappings-gt0.true

pub returns-then-busy : goal.returns-then-busy
returns-then-busy g c s h =
    change-refusal c.args.kind c.args.busy s None (table-none c.args.kind c.args.self.now s h.shows c.in_ok-permit.ensures)
    ∙ unmapped c.mappings.result s.mappings c.args.busy (c.mappings.ensures.model s h) c.if-mappings-gt0.false
    ∙ ap (λ b. when b errno.Ebusy) c.if-busy.true

pub returns : goal.returns
returns g c s h =
    change-refusal c.args.kind c.args.busy s None (table-none c.args.kind c.args.self.now s h.shows c.in_ok-permit.ensures)
    ∙ unmapped c.mappings.result s.mappings c.args.busy (c.mappings.ensures.model s h) c.if-mappings-gt0.false
    ∙ ap (λ b. when b errno.Ebusy) c.if-busy.false
