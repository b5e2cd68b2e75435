-- Text that is written piece by piece while lines come behind it.
use Rattle.std.proofs.Common.{Result, Ok, Err, OnErr, ◌≡◌, ℕ, ◌+◌, ◌<◌, List, [], ◌++◌, length, get_or, take, drop, take-append-drop, refl, sym, ◌∙◌, ap, append_assoc, append-nil}
use Rattle.std.proofs.KnownBytes.{Appends-nil, Appends-trans}
use Rattle.std.proofs.lemmas.List.{drop_more}
use Rattle.std.specs.declared.option.Option.{Option}
use Rattle.std.specs.Io.KnownBytes.{Appends}
use Rattle.pcm_base.specs.declared.ids.SubId.{SubId}
use Rattle.pcm_base.specs.declared.state.Dir.{Dir}
use Rattle.floor_rule.specs.declared.entry.Entry.{Entry}
use Rattle.live_log.specs.declared.log.LogError.{LogError}
use Rattle.live_log.specs.declared.log.LogOf.{LogOf}
use Rattle.live_log.specs.Log.{entry_line, lines_from, log_text, logs_text}
use Rattle.live_log.specs.Written.{IsCutInto, IsFrontWritten}

-- nothing is written yet
pub cut-none : (a : Option (List ℕ)) (whole : List ℕ) → IsCutInto a a whole whole
cut-none a whole = record { front = []; written = Appends-nil a; cut = refl }

-- the same text, cut at the same place
pub cut-same : (a b : Option (List ℕ)) (whole rest rest_now : List ℕ) → IsCutInto a b whole rest → rest_now ≡ rest → IsCutInto a b whole rest_now
cut-same a b whole rest rest_now h e = record { front = h.front; written = h.written; cut = h.cut ∙ ap (λ t. h.front ++ t) (sym e) }

-- a front of what is left is written too
pub cut-more : (a b c : Option (List ℕ)) (whole text behind : List ℕ) (n : ℕ) → IsCutInto a b whole (text ++ behind) → Appends b c (take n text)
    → IsCutInto a c whole (drop n text ++ behind)
cut-more a b c whole text behind n h more = record {
  front = h.front ++ take n text;
  written = Appends-trans a b c h.front (take n text) h.written more;
  cut = h.cut ∙ ap (λ t. h.front ++ (t ++ behind)) (sym (take-append-drop n text)) ∙ ap (λ t. h.front ++ t) (append_assoc (take n text) (drop n text) behind)
      ∙ sym (append_assoc h.front (take n text) (drop n text ++ behind));
}

-- one cut after the other: of what is left of the first, behind which more text stands
pub cut-in : (a b c : Option (List ℕ)) (whole text behind rest : List ℕ) → IsCutInto a b whole (text ++ behind) → IsCutInto b c text rest → IsCutInto a c whole (rest ++ behind)
cut-in a b c whole text behind rest h k = record {
  front = h.front ++ k.front;
  written = Appends-trans a b c h.front k.front h.written k.written;
  cut = h.cut ∙ ap (λ t. h.front ++ (t ++ behind)) k.cut ∙ ap (λ t. h.front ++ t) (append_assoc k.front rest behind) ∙ sym (append_assoc h.front k.front (rest ++ behind));
}

-- all that was left is written
pub cut-all : (a b c : Option (List ℕ)) (whole text behind : List ℕ) → IsCutInto a b whole (text ++ behind) → behind ≡ [] → Appends b c text → Appends a c whole
cut-all a b c whole text behind h none more =
    rw (h.cut ∙ ap (λ t. h.front ++ (text ++ t)) none ∙ ap (λ t. h.front ++ t) (append-nil text)) (Appends-trans a b c h.front text h.written more)

-- a front of what was left is written
pub front-more : (a b c : Option (List ℕ)) (whole text behind : List ℕ) (n : ℕ) → IsCutInto a b whole (text ++ behind) → Appends b c (take n text) → IsFrontWritten a c whole
front-more a b c whole text behind n h more = record { rest = drop n text ++ behind; front = cut-more a b c whole text behind n h more }

pub on-err : {P : Type 0} (r : Result (Unit {0}) LogError) → P → OnErr r P
on-err (Ok u) p = tt
on-err (Err e) p = p

-- the line of the entry at this place, and those behind it
pub next-line : (dir : Dir) (sub : SubId) (entries : List Entry) (place : ℕ) (d : Entry) → place < length entries
    → lines_from dir sub place (drop place entries) ≡ entry_line dir sub place (get_or entries place d) ++ lines_from dir sub (place + 1) (drop (place + 1) entries)
next-line dir sub entries place d lt = ap (λ es. lines_from dir sub place es) (drop_more entries place d lt)

-- the text of the log at this place, and of those behind it
pub next-log : (logs : List LogOf) (i : ℕ) (d : LogOf) → i < length logs → logs_text (drop i logs) ≡ log_text (get_or logs i d) ++ logs_text (drop (i + 1) logs)
next-log logs i d lt = ap (λ ls. logs_text ls) (drop_more logs i d lt)

-- the line of the next entry is behind the text
pub put-line : (a b : Option (List ℕ)) (whole : List ℕ) (dir : Dir) (sub : SubId) (entries : List Entry) (place : ℕ) (d : Entry) (text put : List ℕ) → place < length entries
    → IsCutInto a b whole (text ++ lines_from dir sub place (drop place entries)) → put ≡ text ++ entry_line dir sub place (get_or entries place d)
    → IsCutInto a b whole (put ++ lines_from dir sub (place + 1) (drop (place + 1) entries))
put-line a b whole dir sub entries place d text put lt h is =
    let behind = lines_from dir sub (place + 1) (drop (place + 1) entries) in
    let line = entry_line dir sub place (get_or entries place d) in
    cut-same a b whole _ (put ++ behind) h
    (ap (λ t. t ++ behind) is ∙ append_assoc text line behind ∙ ap (λ t. text ++ t) (sym (next-line dir sub entries place d lt)))

-- the next log is behind the text
pub put-log : (a b : Option (List ℕ)) (whole : List ℕ) (logs : List LogOf) (i : ℕ) (log : LogOf) (text : List ℕ) → i < length logs → log ≡ get_or logs i log
    → IsCutInto a b whole (text ++ logs_text (drop i logs)) → IsCutInto a b whole ((text ++ log_text log) ++ logs_text (drop (i + 1) logs))
put-log a b whole logs i log text lt at h =
    let behind = logs_text (drop (i + 1) logs) in
    let first : log_text log ++ behind ≡ logs_text (drop i logs) = ap (λ l. log_text l ++ behind) at ∙ sym (next-log logs i log lt) in
    cut-same a b whole _ ((text ++ log_text log) ++ behind) h (append_assoc text (log_text log) behind ∙ ap (λ t. text ++ t) first)

-- a front of the next log, and of what stood before it
pub front-in : (a b c : Option (List ℕ)) (whole text behind : List ℕ) → IsCutInto a b whole (text ++ behind) → IsFrontWritten b c text → IsFrontWritten a c whole
front-in a b c whole text behind h k = record { rest = k.rest ++ behind; front = cut-in a b c whole text behind k.rest h k.front }
