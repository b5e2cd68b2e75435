-- What fits in a room: its members, their marked logs and its book. This project's own.
use Rattle.std.specs.Prelude.{◌≡◌, ◌⊎◌, ℕ, ◌+◌, ◌≤◌, nat_eq, nat_lt, List, [], ◌∷◌, ◌++◌, length, slice_get, MatchBool, if◌then◌else◌}
use Rattle.std.specs.declared.option.Option.TheVariants.{Some, None}
use Rattle.pcm_base.specs.declared.config.CardModel.{CardModel}
use Rattle.pcm_base.specs.declared.ids.SubId.{SubId}
use Rattle.pcm_base.specs.declared.state.Dir.{Dir}
use Rattle.pcm_base.specs.declared.votes.Acted.{Acted}
use Rattle.pcm_base.specs.model.Acts.{decide, subs}
use Rattle.pcm_base.specs.model.Group.{stream_of}
use Rattle.pcm_base.specs.model.Replay.{Distinct, Part, joined, vote_of}
use Rattle.pcm_base.specs.model.Sleep.{group_drains}
use Rattle.pcm_base.specs.model.Stream.{Stream, Member, fresh, no_stream}
use Rattle.pcm_laws.specs.Waiting.{EachMayWait}
use Rattle.floor_rule.specs.declared.entry.Entry.TheVariants as entry
use Rattle.floor_rule.specs.declared.entry.EntryMark.{EntryMark}
use Rattle.floor_rule.specs.declared.entry.Joint.{Joint}
use Rattle.floor_rule.specs.declared.rule.Marked.{Marked}
use Rattle.room_book.specs.declared.book.BookEntry.{BookEntry}
use Rattle.room_book.specs.declared.book.BookEntry.TheVariants.{In, Out, Act}
use Rattle.room_book.specs.Logs.{IsShown, PlaysLog, Replayed, nothing}

-- who stands in the room after these lines

abbrev pub without : SubId → List SubId → List SubId
without x [] = []
without x (j ∷ js) = if nat_eq j.0 x.0 then js else j ∷ without x js

abbrev pub standing : List SubId → List BookEntry → List SubId
standing js [] = js
standing js (In x ∷ b) = standing (js ++ x ∷ []) b
standing js (Out x ∷ b) = standing (without x js) b
standing js (Act a ∷ b) = standing js b

abbrev pub acts_in : List BookEntry → ℕ
acts_in [] = 0
acts_in (In x ∷ b) = acts_in b
acts_in (Out x ∷ b) = acts_in b
acts_in (Act a ∷ b) = acts_in b + 1

-- each act has a vote for each member of that moment, and the outcome that they decide
abbrev pub IsActOf : List SubId → Acted → Type 0
IsActOf js a = (length a.votes ≡ length js) × (a.outcome ≡ decide js a.votes)

abbrev pub IsBook : List SubId → List BookEntry → Type 0
IsBook js [] = Unit {0}
IsBook js (In x ∷ b) = IsBook (js ++ x ∷ []) b
IsBook js (Out x ∷ b) = IsBook (without x js) b
IsBook js (Act a ∷ b) = IsActOf js a × IsBook js b

-- an act as member x's log has it: its serial is its place among the acts of the room
abbrev pub joint_of : SubId → ℕ → ℕ → List SubId → Acted → Joint
joint_of x room n js a = record { act = a.act; room = room; serial = n; vote = vote_of x js a.votes; outcome = a.outcome }

abbrev pub joints_of : SubId → ℕ → ℕ → List SubId → List Acted → List Joint
joints_of x room n js [] = []
joints_of x room n js (a ∷ acts) = joint_of x room n js a ∷ joints_of x room (n + 1) js acts

-- the joints of x since it came in last
abbrev pub since_in : SubId → ℕ → List SubId → ℕ → List Joint → List BookEntry → List Joint
since_in x room js n got [] = got
since_in x room js n got (In y ∷ b) = since_in x room (js ++ y ∷ []) n (if nat_eq y.0 x.0 then [] else got) b
since_in x room js n got (Out y ∷ b) = since_in x room (without y js) n got b
since_in x room js n got (Act a ∷ b) = since_in x room js (n + 1) (got ++ joint_of x room n js a ∷ []) b

abbrev pub joints_now : SubId → ℕ → List BookEntry → List Joint
joints_now x room book = since_in x room [] 0 [] book

-- on a floor of these cards each substream begins as the fresh stream of its card
abbrev pub fresh_streams : List (CardModel × Dir) → ℕ → SubId → Stream
fresh_streams cards long_max j = elim (slice_get cards j.0) [ Some c ↦ fresh c.0 c.1 long_max | None ↦ no_stream ]

-- a substream that no client has opened, in its own room
abbrev pub start : (SubId → Stream) → SubId → Replayed
start origin j = record { stream = origin j; room = j.0; since = []; due = nothing }

-- the marked log of substream j of such a floor plays
abbrev pub Plays : List (CardModel × Dir) → ℕ → SubId → List Marked → Type 0
Plays cards long_max j log = (p : Replayed) × PlaysLog j (start (fresh_streams cards long_max) j) log p

-- the log of j comes to this stream in this room, its joints since its move are the book's acts since it came in, and no move must follow
abbrev pub LogFits : (SubId → Stream) → ℕ → List BookEntry → SubId → List Marked → Stream → Type 0
LogFits origin number book j log s = PlaysLog j (start origin j) log (record { stream = s; room = number; since = joints_now j number book; due = nothing })

abbrev pub EachFits : (SubId → Stream) → ℕ → List BookEntry → List Member → List SubId → List (List Marked) → Type 0
EachFits origin number book ms [] [] = Unit {0}
EachFits origin number book ms [] (l ∷ ls) = ⊥
EachFits origin number book ms (j ∷ js) [] = ⊥
EachFits origin number book ms (j ∷ js) (l ∷ ls) = LogFits origin number book j l (stream_of j ms) × EachFits origin number book ms js ls

-- the substream of this number alone, or none
abbrev pub IsOwnOrNone : ℕ → List SubId → Type 0
IsOwnOrNone number [] = Unit {0}
IsOwnOrNone number (j ∷ []) = j.0 ≡ number
IsOwnOrNone number (j ∷ k ∷ js) = ⊥

-- a room below 16 has its own substream or none, another has no member or at least two
abbrev pub RightSize : ℕ → List SubId → Type 0
RightSize number js = MatchBool (nat_lt number 16) (IsOwnOrNone number js) ((length js ≡ 0) ⊎ (2 ≤ length js))

-- The members are those whom the book leaves in the room, each act of the book is one of its moment, and each member's log fits. Here origin says what stream each substream begins as: `fresh_streams` of the floor's cards and LONG_MAX.
pub record BookFits (origin : SubId → Stream) (number : ℕ) (ms : List Member) (logs : List (List Marked)) (book : List BookEntry) : Type 0 where
  pub members : subs ms ≡ standing [] book
  pub apart : Distinct (subs ms)
  pub is_book : IsBook [] book
  pub each : EachFits origin number book ms (subs ms) logs

-- So many may stand in the room, and each client that is marked asleep may wait.
pub record RoomFits (origin : SubId → Stream) (number : ℕ) (ms : List Member) (logs : List (List Marked)) (book : List BookEntry) : Type 0 where
  pub fits : BookFits origin number ms logs book
  pub size : RightSize number (subs ms)
  pub asleep : EachMayWait (group_drains ms) ms

-- the log of member x, the logs without it, and with another in its place

abbrev pub log_of : SubId → List SubId → List (List Marked) → List Marked
log_of x [] ls = []
log_of x (j ∷ js) [] = []
log_of x (j ∷ js) (l ∷ ls) = if nat_eq j.0 x.0 then l else log_of x js ls

abbrev pub without_log : SubId → List SubId → List (List Marked) → List (List Marked)
without_log x [] ls = ls
without_log x (j ∷ js) [] = []
without_log x (j ∷ js) (l ∷ ls) = if nat_eq j.0 x.0 then ls else l ∷ without_log x js ls

abbrev pub with_log : SubId → List Marked → List SubId → List (List Marked) → List (List Marked)
with_log x log [] ls = ls
with_log x log (j ∷ js) [] = []
with_log x log (j ∷ js) (l ∷ ls) = (if nat_eq j.0 x.0 then log else l) ∷ with_log x log js ls

-- marks of shared entries: each shows the stream after its joint
abbrev pub ShowsEach : Stream → List Part → List EntryMark → Type 0
ShowsEach s [] [] = Unit {0}
ShowsEach s [] (m ∷ ms) = ⊥
ShowsEach s (p ∷ ps) [] = ⊥
ShowsEach s (p ∷ ps) (m ∷ ms) = IsShown m (joined p s) × ShowsEach (joined p s) ps ms

abbrev pub shared_entries : List Joint → List EntryMark → List Marked
shared_entries [] ms = []
shared_entries (x ∷ xs) [] = []
shared_entries (x ∷ xs) (m ∷ ms) = record { entry = entry.Shared x; mark = m } ∷ shared_entries xs ms

-- what an event of k adds to the log of j
abbrev pub added : SubId → Marked → List EntryMark → List Joint → SubId → List Marked
added k own marks joints j = if nat_eq j.0 k.0 then own ∷ [] else shared_entries joints marks

-- the logs with what an event of k adds to each
abbrev pub grown : SubId → Marked → (SubId → List EntryMark) → ℕ → ℕ → List SubId → List Acted → List SubId → List (List Marked) → List (List Marked)
grown k own marks room n ks acts [] ls = []
grown k own marks room n ks acts (j ∷ js) [] = []
grown k own marks room n ks acts (j ∷ js) (l ∷ ls) = (l ++ added k own (marks j) (joints_of j room n ks acts) j) ∷ grown k own marks room n ks acts js ls
