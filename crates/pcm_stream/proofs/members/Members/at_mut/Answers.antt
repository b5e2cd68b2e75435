use Rattle.std.proofs.Common.{◌≡◌, ◌≤◌, ℕ, length, refl, vec_len, vec_capacity}
use Rattle.std.proofs.Math.Bridge.{le_prop}
use Rattle.std.proofs.lemmas.Option.{slice_get_read}
use Rattle.std.specs.Vec.{with_item}
use Rattle.pcm_base.specs.declared.card.Card.{Ghosts}
use Rattle.pcm_stream.specs.declared.members.Member.{Member}
use Rattle.pcm_stream.specs.declared.members.Members.{Members}
use Rattle.pcm_stream.specs.Members.{with_member}
use Rattle.pcm_stream.proofs.members.Members.at_mut.Goals as goal

-- that few of them are there, and that there is room, has one proof
same_members : {C : Type 0} {g : Ghosts C} (ms : Members C g) (i : ℕ) (m : Member C g) (few : vec_len (with_item ms.items i m) ≤ 16) (room : 16 ≤ vec_capacity (with_item ms.items i m))
    → (let x : Members C g = record { items = with_item ms.items i m; few = few; room = room } in x ≡ with_member ms i m)
same_members ms i m few room = λ j. record { items = with_item ms.items i m; few = le_prop few ms.few j; room = le_prop room ms.room j }

pub returns : goal.returns
returns g c = (
  (refl, λ w. same_members c.args.self.now c.args.i w _ _),
  record { writes_back = tt; value = slice_get_read c.args.self.now.items.items (length c.args.self.now.items.items) c.args.i c.index_mut.result.now refl c.requires c.index_mut.ensures.value },
)
