use Rattle.std.proofs.Common.{◌≡◌, ◌++◌, ◌∷◌, [], ℕ, List, Option, Some, None, length, remove, sym, ◌∙◌, ap, subst, arith}
use Rattle.std.specs.Option.{option_to_list}
use Rattle.std.specs.List.{slice_get}
use Rattle.pcm_base.specs.model.World.{only_member, without_member}
use Rattle.pcm_stream.specs.declared.members.Member.{Member}
use Rattle.pcm_stream.specs.declared.members.Members.{Members}
use Rattle.pcm_stream.specs.Members.{all_differ, members_of, numbers_of}
use Rattle.pcm_stream.specs.MembersStand.{AllStandFor}
use Rattle.link_group.specs.Numbers.{first_of}
use Rattle.link_group.proofs.PlaceLemmas.{apart, differ-remove, only, only-gone}
use Rattle.link_group.proofs.leave_member.Goals as goal
use Rattle.link_group.proofs.leave_member.Goals.{then-len-eq1, else-len-eq1}

pub returns-clause-gone : goal.returns-clause-gone
returns-clause-gone g c = λ ms h.
    let old = members_of c.args.group.now in
    (apart c.args.sub c.take-gone.result old ms h (ap (λ (i : ℕ). slice_get old i) (sym c.place_of-place.ensures.value) ∙ c.take-gone.ensures.taken)).one

pub returns-clause-others : goal.returns-clause-others
returns-clause-others g c = λ ms h.
    let old = members_of c.args.group.now in
    let rest = (apart c.args.sub c.take-gone.result old ms h (ap (λ (i : ℕ). slice_get old i) (sym c.place_of-place.ensures.value) ∙ c.take-gone.ensures.taken)).rest in
    let left = members_of c.take-gone.new.self in
    let stands : AllStandFor left (without_member c.args.sub ms) =
    subst (λ (l : List (Member g.row.C.Denot g.C.Card)). AllStandFor l (without_member c.args.sub ms)) (ap (λ (i : ℕ). remove old i) (sym c.place_of-place.ensures.value) ∙ sym c.take-gone.ensures.others) rest in
    elim c.if-len-eq1.branch [
      | then-len-eq1 w ↦
          let one : length left ≡ 1 = omega (arith, c.len.ensures.value, w.if-len-eq1.true) in
          let all = only left w.take.result one w.take.ensures.taken in
          let none = w.take.ensures.others ∙ only-gone left one in
          let same : left ≡ option_to_list c.if-len-eq1.alone ++ members_of c.if-len-eq1.group =
          all ∙ ap (λ (l : List (Member g.row.C.Denot g.C.Card)). w.take.result ∷ l) (sym none)
          ∙ ap (λ (x : Members g.row.C.Denot g.C.Card). w.take.result ∷ members_of x) (sym w.group-is)
          ∙ ap (λ (o : Option (Member g.row.C.Denot g.C.Card)). option_to_list o ++ members_of c.if-len-eq1.group) (sym w.alone-is) in
          subst (λ (l : List (Member g.row.C.Denot g.C.Card)). AllStandFor l (without_member c.args.sub ms)) same stands
      | else-len-eq1 w ↦
          let same : left ≡ option_to_list c.if-len-eq1.alone ++ members_of c.if-len-eq1.group =
          ap (λ (x : Members g.row.C.Denot g.C.Card). members_of x) (sym w.group-is)
          ∙ ap (λ (o : Option (Member g.row.C.Denot g.C.Card)). option_to_list o ++ members_of c.if-len-eq1.group) (sym w.alone-is) in
          subst (λ (l : List (Member g.row.C.Denot g.C.Card)). AllStandFor l (without_member c.args.sub ms)) same stands
    ]

pub returns-clause-distinct : goal.returns-clause-distinct
returns-clause-distinct g c = λ d.
    let old = members_of c.args.group.now in
    let left = members_of c.take-gone.new.self in
    let kept = ap (λ (l : List (Member g.row.C.Denot g.C.Card)). all_differ (numbers_of l)) c.take-gone.ensures.others ∙ differ-remove old c.place_of-place.result d in
    elim c.if-len-eq1.branch [
      | then-len-eq1 w ↦
          let one : length left ≡ 1 = omega (arith, c.len.ensures.value, w.if-len-eq1.true) in
          ap (λ (x : Members g.row.C.Denot g.C.Card). all_differ (numbers_of (members_of x))) w.group-is ∙ ap (λ (l : List (Member g.row.C.Denot g.C.Card)). all_differ (numbers_of l)) (w.take.ensures.others ∙ only-gone left one)
      | else-len-eq1 w ↦ ap (λ (x : Members g.row.C.Denot g.C.Card). all_differ (numbers_of (members_of x))) w.group-is ∙ kept
    ]

pub returns-clause-taken : goal.returns-clause-taken
returns-clause-taken g c = ap (λ (i : ℕ). slice_get (members_of c.args.group.now) i) (sym c.place_of-place.ensures.value) ∙ c.take-gone.ensures.taken

pub returns-clause-kept : goal.returns-clause-kept
returns-clause-kept g c =
    let old = members_of c.args.group.now in
    let left = members_of c.take-gone.new.self in
    let rest : left ≡ remove old (first_of c.args.sub (numbers_of old)) = c.take-gone.ensures.others ∙ ap (λ (i : ℕ). remove old i) c.place_of-place.ensures.value in
    elim c.if-len-eq1.branch [
      | then-len-eq1 w ↦
          let one : length left ≡ 1 = omega (arith, c.len.ensures.value, w.if-len-eq1.true) in
          let none = w.take.ensures.others ∙ only-gone left one in
          ap (λ (o : Option (Member g.row.C.Denot g.C.Card)). option_to_list o ++ members_of c.if-len-eq1.group) w.alone-is
          ∙ ap (λ (x : Members g.row.C.Denot g.C.Card). w.take.result ∷ members_of x) w.group-is
          ∙ ap (λ (l : List (Member g.row.C.Denot g.C.Card)). w.take.result ∷ l) none ∙ sym (only left w.take.result one w.take.ensures.taken) ∙ rest
      | else-len-eq1 w ↦
          ap (λ (o : Option (Member g.row.C.Denot g.C.Card)). option_to_list o ++ members_of c.if-len-eq1.group) w.alone-is
          ∙ ap (λ (x : Members g.row.C.Denot g.C.Card). members_of x) w.group-is ∙ rest
    ]
