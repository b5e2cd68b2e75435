-- Each line of a generated script sets LONG_MAX, declares a card or makes an event.
use Rattle.std.proofs.Common.{◌≡◌, ℕ, zero, suc, ◌+◌, ◌*◌, ◌/◌, ◌%◌, ◌<◌, ◌^◌, Bool, true, false, List, [], ◌∷◌, ◌++◌, take, refl, sym, ◌∙◌, ap, subst, append_assoc, append-nil, arith}
use Rattle.std.specs.Prelude.{codes, decimal, if◌then◌else◌, ◌==◌}
use Rattle.std.specs.List.{AllByRecursion}
use Rattle.pcm_base.specs.declared.call.Mode.TheVariants.{NonBlock}
use Rattle.pcm_base.specs.declared.call.Call.TheVariants as call
use Rattle.pcm_base.specs.declared.call.Layout.TheVariants.{Interleaved}
use Rattle.pcm_base.specs.declared.ids.ClientId.{ClientId}
use Rattle.pcm_base.specs.declared.ids.SubId.{SubId}
use Rattle.pcm_base.specs.declared.config.Model.TheVariants.{Duplex}
use Rattle.pcm_base.specs.declared.format.Access.TheVariants.{RwInterleaved}
use Rattle.pcm_base.specs.declared.format.Format.TheVariants.{U8}
use Rattle.pcm_base.specs.declared.state.Dir.TheVariants.{Playback}
use Rattle.pcm_gen.specs.Script.{beginning, last_line, moves, next_number, round, rounds, script, seven_bytes, write_line}
use Rattle.pcm_text.specs.Hex.{hex_digit, hex_pairs, hex_text}
use Rattle.pcm_line.specs.Kinds as kinds
use Rattle.pcm_line.specs.declared.keyword.Keyword.TheVariants as keyword
use Rattle.pcm_line.specs.declared.line.Line.TheVariants.{LongMax, Card}
use Rattle.pcm_line.specs.Forms.{of_client, of_card}
use Rattle.pcm_line.specs.Pieces.{joined}
use Rattle.std.proofs.lemmas.Bool.{ne_eqb}
use Rattle.std.proofs.lemmas.Fmt.{decimal_digit, decimal_step}
use Rattle.pcm_top.specs.Lines.{lines_of}
use Rattle.pcm_top.specs.Gen.{AreGenerated, IsGeneratedLine}

-- the text is whole lines of a generated script
abbrev IsWhole : List ℕ → Type 0
IsWhole text = (rest : List ℕ) → AreGenerated (lines_of rest) → AreGenerated (lines_of (text ++ rest))

whole-append : (a b : List ℕ) → IsWhole a → IsWhole b → IsWhole (a ++ b)
whole-append a b first second = λ rest h. subst (λ (t : List ℕ). AreGenerated (lines_of t)) (sym (append_assoc a b rest)) (first (b ++ rest) (second rest h))

-- ---- the lines without a number of the script

abbrev zero_sub : SubId
zero_sub = record { 0 = 0 }

abbrev one_sub : SubId
one_sub = record { 0 = 1 }

abbrev zero_client : ClientId
zero_client = record { 0 = 0 }

abbrev one_client : ClientId
one_client = record { 0 = 1 }

-- numbers in decimal
digit_is : (n : ℕ) → n < 10 → decimal n ≡ (48 + n) ∷ []
digit_is n few = decimal_digit n few

zero_is : decimal 0 ≡ codes "0"
zero_is = digit_is 0 (omega arith)

one_is : decimal 1 ≡ codes "1"
one_is = digit_is 1 (omega arith)

four_is : decimal 4 ≡ codes "4"
four_is = digit_is 4 (omega arith)

rate_is : decimal 8000 ≡ codes "8000"
rate_is = decimal_step 8000 (omega arith) (omega arith) ∙ ap (λ (x : List ℕ). x ++ codes "0") (decimal_step 800 (omega arith) (omega arith) ∙ ap (λ (x : List ℕ). x ++ codes "0") (decimal_step 80 (omega arith) (omega arith) ∙ ap (λ (x : List ℕ). x ++ codes "0") (digit_is 8 (omega arith))))

long_is : decimal 1023 ≡ codes "1023"
long_is = decimal_step 1023 (omega arith) (omega arith) ∙ ap (λ (x : List ℕ). x ++ codes "3") (decimal_step 102 (omega arith) (omega arith) ∙ ap (λ (x : List ℕ). x ++ codes "2") (decimal_step 10 (omega arith) (omega arith) ∙ ap (λ (x : List ℕ). x ++ codes "0") one_is))

long_line : IsGeneratedLine (codes "long 1023")
long_line = record {
  line = LongMax 1023;
  says = record { keyword = keyword.Long; values = (1023, tt); fit = (omega arith, tt); means = refl; spelling = simp long_is };
  kind = refl;
}

card_line : (bytes : List ℕ) (k : SubId) → k.0 < 16 → bytes ≡ joined (codes "card") (kinds.spelled kinds.OfSub k ∷ codes "duplex" ∷ codes "p" ∷ []) → IsGeneratedLine bytes
card_line bytes k fits e = record {
  line = Card k Duplex Playback;
  says = record { keyword = keyword.Card; values = (k, (Duplex, (Playback, tt))); fit = (fits, (tt, (tt, tt))); means = refl; spelling = e };
  kind = refl;
}

open_line : (bytes : List ℕ) (c : ClientId) (k : SubId) → c.0 < 16 → k.0 < 16 → bytes ≡ joined (codes "open") (kinds.spelled kinds.OfClient c ∷ kinds.spelled kinds.OfSub k ∷ []) → IsGeneratedLine bytes
open_line bytes c k first second e = record {
  line = of_client c k call.OpenSub [];
  says = record { keyword = keyword.Open; values = (c, (k, tt)); fit = (first, (second, tt)); means = refl; spelling = e };
  kind = refl;
}

prepare_line : (bytes : List ℕ) (c : ClientId) (k : SubId) → c.0 < 16 → k.0 < 16 → bytes ≡ joined (codes "prepare") (kinds.spelled kinds.OfClient c ∷ kinds.spelled kinds.OfSub k ∷ []) → IsGeneratedLine bytes
prepare_line bytes c k first second e = record {
  line = of_client c k call.Prepare [];
  says = record { keyword = keyword.Prepare; values = (c, (k, tt)); fit = (first, (second, tt)); means = refl; spelling = e };
  kind = refl;
}

status_line : (bytes : List ℕ) (c : ClientId) (k : SubId) → c.0 < 16 → k.0 < 16 → bytes ≡ joined (codes "status") (kinds.spelled kinds.OfClient c ∷ kinds.spelled kinds.OfSub k ∷ []) → IsGeneratedLine bytes
status_line bytes c k first second e = record {
  line = of_client c k call.Status [];
  says = record { keyword = keyword.Status; values = (c, (k, tt)); fit = (first, (second, tt)); means = refl; spelling = e };
  kind = refl;
}

link_line : (bytes : List ℕ) (c : ClientId) (k j : SubId) → c.0 < 16 → k.0 < 16 → j.0 < 16
    → bytes ≡ joined (codes "link") (kinds.spelled kinds.OfClient c ∷ kinds.spelled kinds.OfSub k ∷ kinds.spelled kinds.OfSub j ∷ []) → IsGeneratedLine bytes
link_line bytes c k j first second third e = record {
  line = of_client c k (call.Link j) [];
  says = record { keyword = keyword.Link; values = (c, (k, (j, tt))); fit = (first, (second, (third, tt))); means = refl; spelling = e };
  kind = refl;
}

irq_line : (bytes : List ℕ) (k : SubId) → k.0 < 16 → bytes ≡ joined (codes "irq") (kinds.spelled kinds.OfSub k ∷ []) → IsGeneratedLine bytes
irq_line bytes k fits e = record {
  line = of_card k call.Irq [];
  says = record { keyword = keyword.Irq; values = (k, tt); fit = (fits, tt); means = refl; spelling = e };
  kind = refl;
}

move_line : (bytes : List ℕ) (k : SubId) (m : ℕ) → k.0 < 16 → m < 2 ^ 63 → bytes ≡ joined (codes "move") (kinds.spelled kinds.OfSub k ∷ decimal m ∷ []) → IsGeneratedLine bytes
move_line bytes k m fits small e = record {
  line = of_card k (call.MoveBy m) [];
  says = record { keyword = keyword.Move; values = (k, (m, tt)); fit = (fits, (small, tt)); means = refl; spelling = e };
  kind = refl;
}

writei_line : (bytes : List ℕ) (c : ClientId) (k : SubId) (frames : List ℕ) → c.0 < 16 → k.0 < 16 → AllByRecursion (λ b. b < 256) frames
    → bytes ≡ joined (codes "writei") (kinds.spelled kinds.OfClient c ∷ kinds.spelled kinds.OfSub k ∷ codes "n" ∷ kinds.hex_text frames ∷ []) → IsGeneratedLine bytes
writei_line bytes c k frames first second small e = record {
  line = of_client c k (call.Write Interleaved NonBlock) frames;
  says = record { keyword = keyword.Writei; values = (c, (k, (NonBlock, (frames, tt)))); fit = (first, (second, (tt, (small, tt)))); means = refl; spelling = e };
  kind = refl;
}

hw_line : (bytes : List ℕ) (c : ClientId) (k : SubId) → c.0 < 16 → k.0 < 16
    → bytes ≡ joined (codes "hw") (kinds.spelled kinds.OfClient c ∷ kinds.spelled kinds.OfSub k ∷ codes "RW_INTERLEAVED" ∷ codes "U8" ∷ decimal 1 ∷ decimal 8000 ∷ decimal 4 ∷ decimal 4 ∷ []) → IsGeneratedLine bytes
hw_line bytes c k first second e = record {
  line = of_client c k (call.HwParams (record { access = RwInterleaved; format = U8; channels = 1; rate = 8000; period = 4; periods = 4 })) [];
  says = record {
    keyword = keyword.Hw;
    values = (c, (k, (RwInterleaved, (U8, (1, (8000, (4, (4, tt))))))));
    fit = (first, (second, (tt, (tt, (omega arith, (omega arith, (omega arith, (omega arith, tt))))))));
    means = refl;
    spelling = e;
  };
  kind = refl;
}

beginning-whole : IsWhole beginning
beginning-whole = λ rest h. (
  long_line,
  (
    card_line _ zero_sub (omega arith) (simp zero_is),
    (
      card_line _ one_sub (omega arith) (simp one_is),
      (
        open_line _ zero_client zero_sub (omega arith) (omega arith) (simp zero_is),
        (
          open_line _ one_client one_sub (omega arith) (omega arith) (simp one_is),
          (
            hw_line _ zero_client zero_sub (omega arith) (omega arith) (simp (zero_is, one_is, four_is, rate_is)),
            (
              hw_line _ one_client one_sub (omega arith) (omega arith) (simp (one_is, four_is, rate_is)),
              (
                link_line _ zero_client zero_sub one_sub (omega arith) (omega arith) (omega arith) (simp (zero_is, one_is)),
                (prepare_line _ zero_client zero_sub (omega arith) (omega arith) (simp zero_is), h),
              ),
            ),
          ),
        ),
      ),
    ),
  ),
)

-- ---- the movements of a round, each by 1 to 6 frames

abbrev moves_with : List ℕ → List ℕ
moves_with ds = codes "move s0 " ++ ds ++ codes "\nirq s0\nmove s1 " ++ ds ++ codes "\nirq s1\n"

moves-at : (m d : ℕ) → m < 2 ^ 63 → decimal m ≡ d ∷ [] → (d == 10) ≡ false → IsWhole (moves m)
moves-at m d small e plain = λ rest h.
    let there : AreGenerated (lines_of (moves_with (d ∷ []) ++ rest)) =
    simp plain (
      move_line _ zero_sub m (omega arith) small (simp (zero_is, e)),
      (
        irq_line _ zero_sub (omega arith) (simp zero_is),
        (
          move_line _ one_sub m (omega arith) small (simp (one_is, e)),
          (irq_line _ one_sub (omega arith) (simp one_is), h),
        ),
      ),
    ) in
    subst (λ (ds : List ℕ). AreGenerated (lines_of (moves_with ds ++ rest))) (sym e) there

moves-whole : (k : ℕ) → k < 6 → IsWhole (moves (1 + k))
moves-whole k few = moves-at (1 + k) (48 + (1 + k)) (omega arith) (digit_is (1 + k) (omega arith)) (ne_eqb _ 10 (λ e. omega arith))

-- ---- the bytes of a round

-- both spell a byte with the same digits, of which none is a line feed
record IsDigit (n : ℕ) : Type 0 where
  same : hex_digit n ≡ kinds.hex_digit n
  plain : (hex_digit n == 10) ≡ false

digit : (n : ℕ) → n < 16 → IsDigit n
digit zero few = record { same = refl; plain = refl }
digit (suc zero) few = record { same = refl; plain = refl }
digit (suc (suc zero)) few = record { same = refl; plain = refl }
digit (suc (suc (suc zero))) few = record { same = refl; plain = refl }
digit (suc (suc (suc (suc zero)))) few = record { same = refl; plain = refl }
digit (suc (suc (suc (suc (suc zero))))) few = record { same = refl; plain = refl }
digit (suc (suc (suc (suc (suc (suc zero)))))) few = record { same = refl; plain = refl }
digit (suc (suc (suc (suc (suc (suc (suc zero))))))) few = record { same = refl; plain = refl }
digit (suc (suc (suc (suc (suc (suc (suc (suc zero)))))))) few = record { same = refl; plain = refl }
digit (suc (suc (suc (suc (suc (suc (suc (suc (suc zero))))))))) few = record { same = refl; plain = refl }
digit (suc (suc (suc (suc (suc (suc (suc (suc (suc (suc zero)))))))))) few = record { same = refl; plain = refl }
digit (suc (suc (suc (suc (suc (suc (suc (suc (suc (suc (suc zero))))))))))) few = record { same = refl; plain = refl }
digit (suc (suc (suc (suc (suc (suc (suc (suc (suc (suc (suc (suc zero)))))))))))) few = record { same = refl; plain = refl }
digit (suc (suc (suc (suc (suc (suc (suc (suc (suc (suc (suc (suc (suc zero))))))))))))) few = record { same = refl; plain = refl }
digit (suc (suc (suc (suc (suc (suc (suc (suc (suc (suc (suc (suc (suc (suc zero)))))))))))))) few = record { same = refl; plain = refl }
digit (suc (suc (suc (suc (suc (suc (suc (suc (suc (suc (suc (suc (suc (suc (suc zero))))))))))))))) few = record { same = refl; plain = refl }
digit (suc (suc (suc (suc (suc (suc (suc (suc (suc (suc (suc (suc (suc (suc (suc (suc n)))))))))))))))) few = absurd (omega arith)

abbrev AreBytes : List ℕ → Type 0
AreBytes bytes = AllByRecursion (λ b. b < 256) bytes

pairs-same : (bytes : List ℕ) → AreBytes bytes → hex_pairs bytes ≡ kinds.hex_pairs bytes
pairs-same [] are = refl
pairs-same (b ∷ bytes) are =
    let first : b / 16 < 16 = omega (arith, are.0) in
    let second : b % 16 < 16 = omega arith in
    let ahead = (digit (b / 16) first).same in
    let behind = (digit (b % 16) second).same in
    let rest = pairs-same bytes are.1 in
    cc

hex-same : (bytes : List ℕ) → AreBytes bytes → hex_text bytes ≡ kinds.hex_text bytes
hex-same [] are = refl
hex-same (b ∷ bytes) are = pairs-same (b ∷ bytes) are

-- a line of these digits, where a line feed stands behind them
pairs-cut : (bytes rest : List ℕ) → AreBytes bytes → lines_of (hex_pairs bytes ++ 10 ∷ rest) ≡ hex_pairs bytes ∷ lines_of rest
pairs-cut [] rest are = refl
pairs-cut (b ∷ bytes) rest are =
    let first : b / 16 < 16 = omega (arith, are.0) in
    let second : b % 16 < 16 = omega arith in
    simp ((digit (b / 16) first).plain, (digit (b % 16) second).plain, pairs-cut bytes rest are.1)

hex-cut : (bytes rest : List ℕ) → AreBytes bytes → lines_of (hex_text bytes ++ 10 ∷ rest) ≡ hex_text bytes ∷ lines_of rest
hex-cut [] rest are = refl
hex-cut (b ∷ bytes) rest are = pairs-cut (b ∷ bytes) rest are

hex-ends : (bytes rest : List ℕ) → AreBytes bytes → lines_of ((hex_text bytes ++ 10 ∷ []) ++ rest) ≡ hex_text bytes ∷ lines_of rest
hex-ends bytes rest are = ap lines_of (append_assoc (hex_text bytes) (10 ∷ []) rest) ∙ hex-cut bytes rest are

first-whole : (bytes : List ℕ) → AreBytes bytes → IsWhole (write_line (codes "writei c0 s0 n ") bytes)
first-whole bytes are = λ rest h. rw (hex-ends bytes rest are) (writei_line _ zero_client zero_sub bytes (omega arith) (omega arith) are (simp (zero_is, hex-same bytes are)), h)

second-whole : (bytes : List ℕ) → AreBytes bytes → IsWhole (write_line (codes "writei c1 s1 n ") bytes)
second-whole bytes are = λ rest h. rw (hex-ends bytes rest are) (writei_line _ one_client one_sub bytes (omega arith) (omega arith) are (simp (one_is, hex-same bytes are)), h)

are-taken : (n : ℕ) (bytes : List ℕ) → AreBytes bytes → AreBytes (take n bytes)
are-taken zero bytes are = tt
are-taken (suc n) [] are = tt
are-taken (suc n) (b ∷ bytes) are = (are.0, are-taken n bytes are.1)

seven-bytes : (j : ℕ) → AreBytes (seven_bytes j)
seven-bytes j = (omega arith, (omega arith, (omega arith, (omega arith, (omega arith, (omega arith, (omega arith, tt)))))))

-- ---- the rounds

last-whole : (j : ℕ) → IsWhole (last_line j)
last-whole j = by (j % 8 == 7)
  where
    by : (b : Bool) → IsWhole (if b then codes "prepare c0 s0\n" else codes "status c1 s1\n")
    by true = λ rest h. (prepare_line _ zero_client zero_sub (omega arith) (omega arith) (simp zero_is), h)
    by false = λ rest h. (status_line _ one_client one_sub (omega arith) (omega arith) (simp one_is), h)

round-whole : (j x : ℕ) → IsWhole (round j x)
round-whole j x =
    let bytes = take (1 + x / 65536 % 7) (seven_bytes j) in
    let are : AreBytes bytes = are-taken (1 + x / 65536 % 7) (seven_bytes j) (seven-bytes j) in
    let first = write_line (codes "writei c0 s0 n ") bytes in
    let second = write_line (codes "writei c1 s1 n ") bytes in
    let moved = moves (1 + x / 1024 % 6) in
    let writes = whole-append first second (first-whole bytes are) (second-whole bytes are) in
    let moves = whole-append (first ++ second) moved writes (moves-whole (x / 1024 % 6) (omega arith)) in
    whole-append (first ++ second ++ moved) (last_line j) moves (last-whole j)

rounds-whole : (k j x : ℕ) → IsWhole (rounds k j x)
rounds-whole zero j x = λ rest h. h
rounds-whole (suc k) j x = whole-append (round j (next_number x)) (rounds k (j + 1) (next_number x)) (round-whole j (next_number x)) (rounds-whole k (j + 1) (next_number x))

pub script-lines : (n : ℕ) → AreGenerated (lines_of (script n))
script-lines n =
    let whole = whole-append beginning (rounds (100 * n) 0 n) beginning-whole (rounds-whole (100 * n) 0 n) in
    subst (λ (t : List ℕ). AreGenerated (lines_of t)) (append-nil (script n)) (whole [] tt)
