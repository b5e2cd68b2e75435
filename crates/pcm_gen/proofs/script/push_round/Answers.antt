use Rattle.std.proofs.Common.{◌≡◌, ℕ, List, ◌++◌, ◌+◌, ◌/◌, ◌%◌, take, codes, Result, Ok, Err, OnOk, ◌∙◌, ap, append_assoc}
use Rattle.pcm_gen.specs.Script.{last_line, moves, round, write_line}
use Rattle.pcm_gen.proofs.script.push_round.Goals as goal

joined : (t a b c d ta tb tc td : List ℕ) → ta ≡ t ++ a → tb ≡ ta ++ b → tc ≡ tb ++ c → td ≡ tc ++ d → td ≡ t ++ (a ++ b ++ c ++ d)
joined t a b c d ta tb tc td ha hb hc hd =
    hd ∙ ap (λ (x : List ℕ). x ++ d) (hc ∙ ap (λ (x : List ℕ). x ++ c) (hb ∙ ap (λ (x : List ℕ). x ++ b) ha))
    ∙ ap (λ (x : List ℕ). x ++ d) (ap (λ (x : List ℕ). x ++ c) (append_assoc t a b) ∙ append_assoc t (a ++ b) c)
    ∙ append_assoc t (a ++ b ++ c) d

on_ok : {T E : Type 0} (r : Result T E) (P Q : Type 0) → (P → Q) → OnOk r P → OnOk r Q
on_ok (Ok x) P Q f h = f h
on_ok (Err e) P Q f h = tt

-- the text of a round that writes these bytes
lines : ℕ → ℕ → List ℕ → List ℕ
lines j x all =
    write_line (codes "writei c0 s0 n ") (take (1 + x / 65536 % 7) all) ++ write_line (codes "writei c1 s1 n ") (take (1 + x / 65536 % 7) all)
    ++ moves (1 + x / 1024 % 6) ++ last_line j

pub returns : goal.returns
unfolding lines
returns c =
    let j = c.args.number in
    let x = c.args.x in
    let before = c.args.text.now.items in
    let bytes : List ℕ = take (1 + x / 65536 % 7) c.bytes_of-all.result in
    on_ok c.push_last.result
    (c.push_last.new.text.items ≡ c.push_moves.new.text.items ++ last_line j)
    (c.push_last.new.text.items ≡ before ++ round j x)
    (λ h.
    joined before (write_line (codes "writei c0 s0 n ") bytes) (write_line (codes "writei c1 s1 n ") bytes) (moves (1 + x / 1024 % 6)) (last_line j)
    c.push_write.new.text.items c.push_write-2.new.text.items c.push_moves.new.text.items c.push_last.new.text.items
    c.in_ok-push_write.ensures c.in_ok-push_write-2.ensures c.in_ok-push_moves.ensures h
    ∙ ap (λ (all : List ℕ). before ++ lines j x all) c.bytes_of-all.ensures)
    c.push_last.ensures
