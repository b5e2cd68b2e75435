use Rattle.std.proofs.Common.{◌≡◌, ℕ, suc, List, ◌++◌, ◌+◌, ◌-◌, ◌*◌, ◌<◌, refl, sym, ◌∙◌, ap, append_assoc, arith}
use Rattle.pcm_gen.specs.Script.{next_number, round, rounds, script}
use Rattle.pcm_gen.proofs.script.gen_script.Goals as goal

-- a round is behind the text, and those to come behind it
step : (n j end x y : ℕ) (now new : List ℕ) → j < end → y ≡ next_number x → new ≡ now ++ round j y
    → now ++ rounds (end - j) j x ≡ script n → new ++ rounds (end - (j + 1)) (j + 1) y ≡ script n
step n j end x y now new below is put h =
    let one : end - j ≡ suc (end - (j + 1)) = omega arith in
    ap (λ (t : List ℕ). t ++ rounds (end - (j + 1)) (j + 1) y) put
    ∙ append_assoc now (round j y) (rounds (end - (j + 1)) (j + 1) y)
    ∙ ap (λ (z : ℕ). now ++ (round j z ++ rounds (end - (j + 1)) (j + 1) z)) is
    ∙ ap (λ (k : ℕ). now ++ rounds k j x) (sym one) ∙ h

pub rounds-preserved : goal.rounds-preserved
rounds-preserved c = (
  c.next-x.ensures.below,
  refl,
  step c.args.n c.rounds.number (100 * c.args.n) c.rounds.x c.next-x.result c.rounds.text.items c.push_round.new.text.items
      (omega arith) c.next-x.ensures.next c.in_ok-push_round.ensures c.rounds.invariant.2,
)
