-- What a plan comes to, by the lines that were read of it.
use Rattle.std.proofs.Common.{◌≡◌, ◌≤◌, ◌<◌, ℕ, ◌+◌, Bool, true, false, List, [], ◌∷◌, ◌++◌, length, take, refl, sym, ◌∙◌, ap, subst, inl, inr, ◌⊎◌, arith, None, Some, length-append}
use Rattle.std.specs.Prelude.{IfSome}
use Rattle.std.specs.declared.option.Option.{Option}
use Rattle.pcm_io.specs.Lines.{Ahead, LineState}
use Rattle.pcm_line.specs.declared.error.LineError.{LineError}
use Rattle.pcm_line.specs.declared.error.LineError.TheVariants as line_error
use Rattle.pcm_line.specs.declared.line.Line.{Line}
use Rattle.pcm_line.specs.Grammar.{IsLine}
use Rattle.pcm_text.specs.declared.status.Which.TheVariants.{Beats}
use Rattle.live_plan.specs.declared.error.PlanError.{PlanError}
use Rattle.live_plan.specs.declared.error.PlanError.TheVariants as error
use Rattle.live_plan.specs.Draft.{IsUnfinished}
use Rattle.live_plan.specs.Lines.{lines_of, is_over, is_last, line_limit, byte_limit}
use Rattle.live_plan.specs.Plan.{Begins, HasFault, IsSaid, IsReached, IsFaulty, HasManyLines, HasManyBytes, IsRefused}
use Rattle.live_plan.specs.Rules.{fault_of}
use Rattle.live_plan.specs.Said.{Said, Then, count_of}
use Rattle.live_plan.proofs.LineLemmas.{some_line}
use Rattle.live_plan.proofs.SoundLemmas.{begins_count}
use Rattle.live_plan.proofs.StreamLemmas.{IsAmid, IsAtLine, to_come, used_up}

-- ---- a line that is reached

reached_at : (plan : List ℕ) (lines : List (List ℕ)) (said : Said) (r : LineState) (m : Option (List ℕ)) → (at : IsAtLine plan lines r m) → Begins lines said
    → IsReached plan said r.line (lines_of (to_come r.ahead at.left))
reached_at plan lines said r m at begins = record { front = lines; cut = at.cut; begins = begins }

-- the line past the limit of lines
pub full_lines : (plan : List ℕ) (lines : List (List ℕ)) (said : Said) (a : Ahead) (m : Option (List ℕ)) → IsAmid plan lines a m → 0 < length a.bytes → Begins lines said → count_of said ≡ line_limit
    → HasManyLines plan (line_limit + 1)
full_lines plan lines said a m amid some begins full =
    let come = to_come a amid.left in
    let first = some_line come (omega (arith, length-append a.bytes (take a.room amid.left), some)) in
    record {
      said = said;
      here = first.0;
      others = first.1;
      reached = record { front = lines; cut = amid.cut ∙ ap (λ (x : List (List ℕ)). lines ++ x) first.2; begins = begins };
      full = full;
      above = refl;
    }

last_none : (over : Bool) (lines : List (List ℕ)) → is_last over lines ≡ true → (lines ≡ []) × (over ≡ true)
last_none over [] e = (refl, e)
last_none over (line ∷ lines) e = let no : false ≡ true = e in cc

-- the line with the byte past the limit
pub full_bytes : (plan : List ℕ) (lines : List (List ℕ)) (said : Said) (r : LineState) (m : Option (List ℕ)) (used : Bool) → IsAtLine plan lines r m → used ≡ used_up r.ahead → used ≡ true → Begins lines said
    → count_of said < line_limit → HasManyBytes plan (byte_limit + 1)
full_bytes plan lines said r m used at e up begins few =
    let others = lines_of (to_come r.ahead at.left) in
    let last = last_none (is_over plan) others (at.is_last_one ∙ sym e ∙ up) in
    record {
      said = said;
      here = r.line;
      reached = record { front = lines; cut = at.cut ∙ ap (λ (x : List (List ℕ)). lines ++ r.line ∷ x) last.0; begins = begins };
      lines = few;
      over = last.1;
      above = refl;
    }

-- a line at fault
faulty : (plan : List ℕ) (lines : List (List ℕ)) (said : Said) (r : LineState) (m : Option (List ℕ)) (used : Bool) (number : ℕ) (fault : LineError) → IsAtLine plan lines r m → used ≡ used_up r.ahead → used ≡ false
    → Begins lines said → count_of said < line_limit → number ≡ count_of said → HasFault said r.line fault → IsFaulty plan (number + 1) fault
faulty plan lines said r m used number fault at e open_ begins few here wrong = record {
  said = said;
  here = r.line;
  others = lines_of (to_come r.ahead at.left);
  reached = reached_at plan lines said r m at begins;
  lines = few;
  few = at.is_last_one ∙ sym e ∙ open_;
  wrong = wrong;
  at = ap (λ (n : ℕ). n + 1) here;
}

-- the answer at a line that was not taken
pub refused_at : (plan : List ℕ) (lines : List (List ℕ)) (said : Said) (r : LineState) (m : Option (List ℕ)) (used : Bool) (number : ℕ) (line : List ℕ) (fault : LineError) (answer : PlanError) → IsAtLine plan lines r m → used ≡ used_up r.ahead
    → used ≡ false → Begins lines said → count_of said < line_limit → number ≡ count_of said → line ≡ r.line → (fault ≡ line_error.Memory) ⊎ HasFault said line fault
    → ((fault ≡ line_error.Memory) × (answer ≡ error.Memory)) ⊎ ((fault ≡ line_error.Memory → ⊥) × (answer ≡ error.BadLine (number + 1) fault)) → IsRefused plan answer
refused_at plan lines said r m used number line fault answer at e open_ begins few here same why (inl memory) = subst (IsRefused plan) (sym memory.1) tt
refused_at plan lines said r m used number line fault answer at e open_ begins few here same (inl memory) (inr bad) = absurd (bad.0 memory)
refused_at plan lines said r m used number line fault answer at e open_ begins few here same (inr wrong) (inr bad) =
    subst (IsRefused plan) (sym bad.1) (inl (faulty plan lines said r m used number fault at e open_ begins few here (subst (λ (x : List ℕ). HasFault said x fault) same wrong)))

-- ---- a line that was taken

pub begins_then : (lines : List (List ℕ)) (said : Said) (here bytes : List ℕ) (line : Line) → Begins lines said → bytes ≡ here → IsLine bytes line → fault_of said line bytes ≡ None → Begins (lines ++ here ∷ []) (Then said line)
begins_then lines said here bytes line begins same says stands = record { front = lines; bytes = bytes; cut = ap (λ (x : List ℕ). lines ++ x ∷ []) (sym same); before = begins; says = says; stands = stands }

-- ---- the end of the plan

pub all_said : (plan : List ℕ) (lines : List (List ℕ)) (said : Said) → Begins lines said → (lines_of plan ≡ lines) × (length plan ≤ byte_limit) → count_of said ≤ line_limit → IsSaid plan said
all_said plan lines said begins all few =
    let size : length (lines_of plan) ≡ count_of said = ap length all.0 ∙ begins_count lines said begins in
    record {
      begins = subst (λ (x : List (List ℕ)). Begins x said) (sym all.0) begins;
      lines = omega (arith, size, few);
      few = all.1;
    }

pub refused_end : (plan : List ℕ) (said : Said) (e : PlanError) → IsSaid plan said → IsUnfinished said e → IsRefused plan e
refused_end plan said (error.BadLine number fault) all h = inr (record { said = said; lines = all; lacks = h.0; short = h.1; at = h.2 })
refused_end plan said (error.Limit Beats value) all h = record { said = said; lines = all; parts = h.0; many = h.1; above = h.2 }
refused_end plan said _ all h = absurd h

-- ---- what is said where the source tells its bytes

pub if_some_map : {A : Type 0} (P Q : A → Type 0) (o : Option A) → ((a : A) → P a → Q a) → IfSome o P → IfSome o Q
if_some_map P Q None f h = tt
if_some_map P Q (Some a) f h = f a h

pub none_asked : {A : Type 0} (P : A → Type 0) (o : Option A) → ((a : A) → P a) → IfSome o P
none_asked P None f = tt
none_asked P (Some a) f = f a
