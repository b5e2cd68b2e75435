-- The logs of a floor at rest, each with the number of its substream. This project's own.
use Rattle.std.specs.Prelude.{◌≡◌, ℕ, List, [], ◌∷◌, ◌++◌, map}
use Rattle.card_emul.specs.declared.any_card.AnyCard.{AnyCard}
use Rattle.card_emul.specs.contracts.any_card.AnyCardCard.TheImpl.{ghosts}
use Rattle.pcm_base.specs.declared.config.CardModel.{CardModel}
use Rattle.pcm_base.specs.declared.state.Dir.{Dir}
use Rattle.pcm_base.specs.model.Acts.{subs}
use Rattle.pcm_base.specs.model.Replay.{Distinct}
use Rattle.pcm_base.specs.model.Stream.{Member as ModelMember}
use Rattle.pcm_stream.specs.MembersStand.{AllStandFor}
use Rattle.pcm_stream.specs.StandsFor.{StandsFor}
use Rattle.pcm_stream.specs.declared.members.Member.{Member}
use Rattle.pcm_stream.specs.declared.substream.Substream.{Substream}
use Rattle.floor_rule.specs.declared.rule.Marked.{Marked}
use Rattle.floor_rule.specs.declared.rule.RecKnows.{RecKnows}
use Rattle.room_book.specs.Logs.{PlaysLog, Replayed, nothing}
use Rattle.room_book.specs.Rooms.{EachFits, fresh_streams, start}
use Rattle.room_book.specs.declared.book.BookEntry.{BookEntry}
use Rattle.room_parts.specs.Recs.{RecView, subs_of}

-- the whole log of a rec, with the number of its substream
abbrev pub log_of : RecKnows → ℕ × List Marked
log_of r = (r.sub, r.log)

-- the numbers of some logs
abbrev pub numbers_of : List (ℕ × List Marked) → List ℕ
numbers_of ls = map (λ l. l.0) ls

-- the logs of some recs behind others, the last first
abbrev pub with_logs : List (ℕ × List Marked) → List RecView → List (ℕ × List Marked)
with_logs ls [] = ls
with_logs ls (r ∷ rs) = with_logs ls rs ++ log_of r.knows ∷ []

-- On a floor of these cards the log plays to a stream for which this one stands, and no move must follow.
pub record HasPlayed (cards : List (CardModel × Dir)) (long_max : ℕ) (l : ℕ × List Marked) (s : Substream AnyCard ghosts) : Type 0 where
  pub replayed : Replayed
  pub plays : PlaysLog (record { 0 = l.0 }) (start (fresh_streams cards long_max) (record { 0 = l.0 })) l.1 replayed
  pub settled : replayed.due ≡ nothing
  pub stands : StandsFor s replayed.stream

-- Each member has its rec in the same place, whose log fits in their room with the stream for which the member stands.
pub record FitInRoom (cards : List (CardModel × Dir)) (long_max : ℕ) (rs : List RecView) (ms : List (Member AnyCard ghosts)) : Type 0 where
  pub number : ℕ
  pub book : List BookEntry
  pub streams : List ModelMember
  pub stand : AllStandFor ms streams
  pub recs_are : subs_of rs ≡ subs streams
  pub apart : Distinct (subs streams)
  pub each : EachFits (fresh_streams cards long_max) number book streams (subs streams) (map (λ r. r.knows.log) rs)
