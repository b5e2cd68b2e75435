use Rattle.std.proofs.Common.{◌≡◌, ◌<◌, ◌^◌, ◌++◌, ◌-◌, ◌*◌}
use Rattle.pcm_gen.specs.Script.{rounds, script}
use Rattle.pcm_gen.proofs.script.gen_script.Given as goal

-- the rounds that are to come complete the script
abbrev pub invariant-rounds : goal.invariant-rounds
invariant-rounds l =
    (l.x < 2 ^ 31) × (l.number-end ≡ 100 * l.fn.n)
    × (l.text.items ++ rounds (l.number-end - l.number) l.number l.x ≡ script l.fn.n)
