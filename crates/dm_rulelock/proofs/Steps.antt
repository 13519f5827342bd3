-- Each step of a lock keeps its rule, and tells what its call promises.
use Rattle.std.proofs.Common.{◌≡◌, ◌≢◌, ℕ, ◌<◌, ◌≤◌, eqb, List, [], ◌∷◌, ◌++◌, length, get_or, set, Option, Some, None, sym, refl, ap, ◌∙◌, subst, inl, inr, ⊎_elim, arith, length-set, get_or-set_same}
use Rattle.std.specs.Prelude.{unwrap_or}
use mathlib.Core.Option.{some, none}
use lib.ListN.{get_elem?}
use lib.Seq.{set-get_or}
use prog.Atomic.{either}
use Rattle.atomic_table.specs.Table.{State, Me, Act, Valid, carried_after, step, keeps, takes, gives, stepped, Allows, Splits, Joins, rest, put_back, opening, Final, Seen}
use Rattle.atomic_table.proofs.Lists.{set_again, set_else, at_longer, exchanged}
use Rattle.dm_rulelock.specs.declared.view.View.{View}
use Rattle.dm_rulelock.specs.Positions.{AtMost}
use Rattle.dm_rulelock.specs.Views.{first_view, spent, after_take, after_give, after_split, split_off, after_join}
use Rattle.dm_rulelock.specs.Rule.{FitsLock, FitsHome, FitsHolder, EachView, IsFree, IsTaken, KeepsRule, TriesToTake, GivesBack}
use Rattle.dm_rulelock.proofs.Positions.{AtMost-refl, AtMost-trans, greater-AtMost}
use Rattle.dm_rulelock.proofs.Views.{EachView-one, EachView-set, EachView-set_one, EachView-snoc, get_elem?-set, two_in_total}
use Rattle.dm_rulelock.proofs.RuleLemmas.{Some-ne-None, Some-injective, inputs_of, is_holder, not_holder, total_callers-same, total_callers-split, total_callers-join}

abbrev value_in : {T : Type 0} → T → List (ℕ × Option T) → T
value_in default [] = default
value_in default (slot ∷ rest) = unwrap_or slot.1 default

-- the value that was laid into the slot is the one that is found there
laid_is : {T : Type 0} (held : List (ℕ × Option T)) (a b : T) → held ≡ (0, Some a) ∷ [] → held ≡ (0, Some b) ∷ [] → a ≡ b
laid_is held a b is_a is_b = ap (value_in a) (sym is_a ∙ is_b)

module _ {T I : Type 0} (inputs : T → I) (positions : T → List ℕ) (over : I) (callers : ℕ) where
  abbrev Lock : Type 0
  Lock = State (Option T) (View I)

  abbrev Seat : Type 0
  Seat = Me (Option T) (View I)

  abbrev Rule : Lock → Type 0
  Rule = KeepsRule inputs positions over callers

  -- a lock begins with its value at home, and one seat for all callers
  pub opens : (value : T)
      → inputs value ≡ over
      → 0 < callers
      → Rule (opening (0 ∷ []) (Some value ∷ []) (first_view over (positions value) callers))
  opens value over_inputs some_callers = record {
    one_word = refl;
    all_callers = omega arith;
    belongs = EachView-one (FitsLock over) _ (inr (some_callers, refl));
    place = inl record {
      word = refl;
      value = value;
      home = refl;
      over_inputs = over_inputs;
      views = EachView-one (FitsHome (positions value)) _ (refl, AtMost-refl (positions value));
    };
  }

  -- what a try to take owes, where it found this in the word and leaves that there
  abbrev Tried : Lock → ℕ → Seat → ℕ → ℕ → Type 0
  Tried s id me found new =
      (w : View I)
      × (act : Act (Option T))
      × Valid s.homes me.1 act
      × Rule (stepped s 0 new id me.1 w act)
      × TriesToTake inputs positions (step 1 0 0 1 none) me found (w, carried_after me.1 act)

  -- it found the word free, and the seat takes the slot
  hits : (s : Lock) (id : ℕ) (me : Seat)
      → Rule s
      → get_elem? s.views id ≡ some me.0
      → 0 < me.0.callers
      → get_or s.words 0 0 ≡ 0
      → Tried s id me (get_or s.words 0 0) 1
  hits s id me rule at live free =
      let v : View I = me.0 in
      let one : length s.words ≡ 1 = rule.one_word in
      let mine : v.inputs ≡ Some over = inputs_of over id v (rule.belongs id v at) live in ⊎_elim
      (λ (home : IsFree inputs positions over s).
      let took : List ℕ = positions home.value in
      let below : AtMost v.seen took = (home.views id v at).1 in (
        after_take v took,
        takes 0 (Some home.value),
        ap (λ homes. get_elem? homes 0) home.home,
        record {
          one_word = length-set s.words 0 1 ∙ one;
          all_callers = total_callers-same s.views id v at (after_take v took) refl ∙ rule.all_callers;
          belongs = EachView-set_one (FitsLock over) s.views id (after_take v took) (inr (live, mine)) rule.belongs;
          place = inr record {
            word = get_or-set_same s.words 0 1 0 (omega arith);
            holder = id;
            mark = took;
            home = ap (λ homes. set homes 0 none) home.home;
            marked = (after_take v took, get_elem?-set s.views id v (after_take v took) at, refl);
            views = EachView-set (FitsHolder id took) s.views id (after_take v took) (below, inl refl)
                (λ seat u _ there. let beside = home.views seat u there in (beside.1, inr beside.0));
          };
        },
        ((λ _. (home.value, refl, mine ∙ ap Some (sym home.over_inputs), below)), (λ other. absurd (other free))),
      ))
      (λ (out : IsTaken s). let taken : get_or s.words 0 0 ≡ 1 = out.word in absurd (omega arith))
      rule.place

  -- it found the word taken, and nothing changes
  misses : (s : Lock) (id : ℕ) (me : Seat)
      → Rule s
      → get_elem? s.views id ≡ some me.0
      → get_or s.words 0 0 ≢ 0
      → Tried s id me (get_or s.words 0 0) (get_or s.words 0 0)
  misses s id me rule at taken = (
    me.0,
    keeps,
    tt,
    subst (λ (changed : List ℕ × List (View I)). Rule record { words = changed.0; homes = s.homes; views = changed.1 })
        (λ k. (sym (set-get_or s.words 0 0) k, sym (set_again s.views id me.0 at) k))
        rule,
    ((λ free. absurd (taken free)), (λ _. refl)),
  )

  pub allows_take : (slots id : ℕ) (me : Seat)
      → 0 < me.0.callers
      → Allows Rule slots id me 0 (λ word. either (eqb word 0) 1 word) (TriesToTake inputs positions (step slots 0 0 1 none) me)
  allows_take slots id me live s rule _ at _ =
      exchanged (get_or s.words 0 0) 0 1 (Tried s id me (get_or s.words 0 0)) (hits s id me rule at live) (misses s id me rule at)

  -- a seat that has taken gives the slot back, with a value over the lock's inputs that is no less far than the mark
  pub allows_give : (slots id : ℕ) (me : Seat) (took : List ℕ) (value : T)
      → me.0.taken ≡ Some took
      → me.1 ≡ (0, Some value) ∷ []
      → me.0.inputs ≡ Some (inputs value)
      → AtMost took (positions value)
      → 0 < me.0.callers
      → Allows Rule slots id me 0 (λ _. 0) (GivesBack positions (step slots 0 0 0 none) me)
  allows_give slots id me took value marked holds same_inputs further live s rule _ at _ =
      let v : View I = me.0 in
      let w : View I = after_give v (positions value) in
      let one : length s.words ≡ 1 = rule.one_word in
      let mine : v.inputs ≡ Some over = inputs_of over id v (rule.belongs id v at) live in ⊎_elim
      (λ (home : IsFree inputs positions over s). absurd (Some-ne-None marked (home.views id v at).0))
      (λ (out : IsTaken s).
      let holder = is_holder s out id v at took marked in (
        w,
        gives,
        tt,
        record {
          one_word = length-set s.words 0 0 ∙ one;
          all_callers = total_callers-same s.views id v at w refl ∙ rule.all_callers;
          belongs = EachView-set_one (FitsLock over) s.views id w (inr (live, mine)) rule.belongs;
          place = inl record {
            word = get_or-set_same s.words 0 0 0 (omega arith);
            value = value;
            home = ap (λ held. put_back s.homes held) holds ∙ ap (λ homes. set homes 0 (some (Some value))) out.home;
            over_inputs = Some-injective (inputs value) over (sym same_inputs ∙ mine);
            views = EachView-set (FitsHome (positions value)) s.views id w (refl, AtMost-refl (positions value))
                (λ seat u apart there. let behind = out.views seat u there in (
                  ⊎_elim (λ (is : seat ≡ out.holder). absurd (apart (is ∙ sym holder.0))) (λ free. free) behind.1,
                  AtMost-trans u.seen took (positions value) (subst (AtMost u.seen) holder.1 behind.0) further,
                ));
          };
        },
        (λ given is.
            let same : value ≡ given = laid_is me.1 value given holds is in
            (λ k. (after_give v (positions (same k)), ap rest holds k))),
      ))
      rule.place

  pub allows_split : (id : ℕ) (v : View I)
      → v.taken ≡ None
      → 2 ≤ v.callers
      → Splits Rule id v (after_split v) (split_off v)
  allows_split id v free two s rule at =
      let mine : v.inputs ≡ Some over = inputs_of over id v (rule.belongs id v at) (omega arith) in
      let left : View I = after_split v in
      let right : View I = split_off v in
      let both : (F : ℕ → View I → Type 0)
      → F id left
      → ((seat : ℕ) → F seat right)
      → EachView F s.views
      → EachView F (set s.views id left ++ right ∷ []) =
      λ F stays leaves old. EachView-snoc F (set s.views id left) right (EachView-set_one F s.views id left stays old) leaves in record {
        one_word = rule.one_word;
        all_callers = total_callers-split s.views id v at two ∙ rule.all_callers;
        belongs = both (FitsLock over) (inr (omega arith, mine)) (λ _. inr (omega arith, mine)) rule.belongs;
        place = ⊎_elim
            (λ (home : IsFree inputs positions over s). let beside = home.views id v at in inl record {
              word = home.word;
              value = home.value;
              home = home.home;
              over_inputs = home.over_inputs;
              views = both (FitsHome (positions home.value)) beside (λ _. (refl, beside.1)) home.views;
            })
            (λ (out : IsTaken s).
            let below = (out.views id v at).0 in
            let kept = set_else s.views id out.holder left (not_holder s out id v at free) ∙ out.marked.1 in inr record {
              word = out.word;
              holder = out.holder;
              mark = out.mark;
              home = out.home;
              marked = (out.marked.0, at_longer (set s.views id left) (right ∷ []) out.holder out.marked.0 kept, out.marked.2);
              views = both (FitsHolder out.holder out.mark) (below, inr free) (λ _. (below, inr refl)) out.views;
            })
            rule.place;
      }

  pub allows_join : (id : ℕ) (v : View I) (other : ℕ) (w : View I)
      → v.taken ≡ None
      → w.taken ≡ None
      → 0 < v.callers
      → Joins Rule id v other w (after_join v w) spent
  allows_join id v other w free other_free live s rule at apart there =
      let mine : v.inputs ≡ Some over = inputs_of over id v (rule.belongs id v at) live in
      let joined : View I = after_join v w in
      let views : List (View I) = set s.views id joined in
      let was : get_elem? s.views other ≡ some w = sym (set_else s.views id other joined apart) ∙ there in
      let both : (F : ℕ → View I → Type 0)
      → F id joined
      → F other spent
      → EachView F s.views
      → EachView F (set views other spent) =
      λ F stays ends old. EachView-set_one F views other spent ends (EachView-set_one F s.views id joined stays old) in record {
        one_word = rule.one_word;
        all_callers = total_callers-join s.views id v at other w there ∙ rule.all_callers;
        belongs = both (FitsLock over) (inr (omega arith, mine)) (inl refl) rule.belongs;
        place = ⊎_elim
            (λ (home : IsFree inputs positions over s). inl record {
              word = home.word;
              value = home.value;
              home = home.home;
              over_inputs = home.over_inputs;
              views = both (FitsHome (positions home.value))
                  (free, greater-AtMost v.seen w.seen (positions home.value) (home.views id v at).1 (home.views other w was).1)
                  (refl, tt)
                  home.views;
            })
            (λ (out : IsTaken s).
            let kept = set_else s.views id out.holder joined (not_holder s out id v at free) ∙ out.marked.1 in inr record {
              word = out.word;
              holder = out.holder;
              mark = out.mark;
              home = out.home;
              marked = (out.marked.0, set_else views other out.holder spent (not_holder s out other w was other_free) ∙ kept, out.marked.2);
              views = both (FitsHolder out.holder out.mark)
                  (greater-AtMost v.seen w.seen out.mark (out.views id v at).0 (out.views other w was).0, inr free)
                  (tt, inr refl)
                  out.views;
            })
            rule.place;
      }

  -- where a seat stands for all callers and has not taken, no seat has, and the value is at home
  pub at_home : (id : ℕ) (v : View I) (words : List ℕ) (slots : List (Option T))
      → v.taken ≡ None
      → v.callers ≡ callers
      → 0 < v.callers
      → Final (Seen Rule id v) words slots
      → (value : T) × (get_elem? slots 0 ≡ some (Some value)) × (v.inputs ≡ Some (inputs value)) × AtMost v.seen (positions value)
  at_home id v words slots free all live (s, (rule, at), _, _, brings) = ⊎_elim
      (λ (home : IsFree inputs positions over s). (
        home.value,
        brings 0 (Some home.value) (ap (λ homes. get_elem? homes 0) home.home),
        inputs_of over id v (rule.belongs id v at) live ∙ ap Some (sym home.over_inputs),
        (home.views id v at).1,
      ))
      (λ (out : IsTaken s).
      let u : View I = out.marked.0 in
      let apart : id ≢ out.holder = λ same. not_holder s out id v at free (sym same) in
      let two = two_in_total s.views id out.holder v u apart at out.marked.1 in
      let total = rule.all_callers in
      ⊎_elim
      (λ (is_spent : u ≡ spent). absurd (Some-ne-None out.marked.2 (ap (λ (x : View I). x.taken) is_spent)))
      (λ (b : (0 < u.callers) × (u.inputs ≡ Some over)). let more = b.0 in absurd (omega arith))
      (rule.belongs out.holder u out.marked.1))
      rule.place
