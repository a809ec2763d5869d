-- What is played is a run, and there is one.
use Rattle.std.proofs.Common.{◌≡◌, ℕ, ℤ, suc, ◌<◌, List, [], ◌∷◌, ◌++◌, length, slice_get, Option, Some, sym, ◌∙◌, ap, subst, inl, inr, arith}
use Rattle.std.specs.Option.{option_map_or}
use Rattle.std.proofs.lemmas.Bool.{cases_lt}
use Rattle.std.proofs.lemmas.Option.{slice_get_past}
use Rattle.plank_prog.specs.declared.headers.Header.{Header}
use Rattle.plank_prog.specs.declared.methods.Method.{Method}
use Rattle.plank_hist.specs.declared.events.Event.{Event}
use Rattle.plank_sem.specs.Worlds.{WorldState, start_world}
use Rattle.plank_sem.specs.Steps.{next, stepped, refused, null_read}
use Rattle.plank_sem.specs.Runs.{Run, begins as run_begins, goes_on as run_goes_on}
use Rattle.plank_trace.specs.declared.lines.Line.{Line}
use Rattle.plank_trace.specs.Lines.{choice_of}
use Rattle.plank_trace.specs.Keys.{keys_of}
use Rattle.plank_trace.specs.Texts.{stands_at, thread_of, step_text, null_text, walks_text}
use Rattle.plank_trace.specs.Traces.{choices_of, Plays, begins, goes_on, IsTrace, to_its_end, to_null, IsBadStep, refused_after}

module _ (h : Header) (methods : List Method) (lines : List Line) where
  -- ---- the run that is played

  pub record IsRun (n : ℕ) (w : WorldState) : Type 0 where
    pub told : List (Option Event)
    pub worlds : List WorldState
    pub run : Run h methods (choices_of methods lines n) told (w ∷ worlds)

  pub plays_run : (m : ℕ) (w : WorldState) (shown : List ℕ) → Plays h methods lines m w shown → IsRun m w
  plays_run m w shown (begins _ _ _ none start empty) =
      let run : Run h methods (choices_of methods lines 0) [] (start_world h ∷ []) = run_begins in
      record {
        told = [];
        worlds = [];
        run = subst (λ (k : ℕ). Run h methods (choices_of methods lines k) [] (w ∷ [])) (sym none) (subst (λ (v : WorldState). Run h methods (choices_of methods lines 0) [] (v ∷ [])) (sym start) run);
      }
  plays_run m w shown (goes_on _ _ _ n before bytes played line at event made more text) =
      let so_far = plays_run n before bytes played in
      let choices : choices_of methods lines (suc n) ≡ choice_of methods line ∷ choices_of methods lines n = ap (λ l. option_map_or (λ x. choice_of methods x ∷ choices_of methods lines n) l (choices_of methods lines n)) at in
      record {
        told = event ∷ so_far.told;
        worlds = before ∷ so_far.worlds;
        run = subst (λ (k : ℕ). Run h methods (choices_of methods lines k) (event ∷ so_far.told) (w ∷ before ∷ so_far.worlds)) (sym more)
            (subst (λ cs. Run h methods cs (event ∷ so_far.told) (w ∷ before ∷ so_far.worlds)) (sym choices) (run_goes_on so_far.run (choice_of methods line) event w made));
      }

  -- ---- there is one

  -- the same lines lead to one world and one text
  pub plays_one : (n m : ℕ) (w v : WorldState) (b c : List ℕ) → n ≡ m → Plays h methods lines n w b → Plays h methods lines m v c → (w ≡ v) × (b ≡ c)
  plays_one n m w v b c same (begins _ _ _ none start empty) (begins _ _ _ none' start' empty') = (start ∙ sym start', empty ∙ sym empty')
  plays_one n m w v b c same (begins _ _ _ none start empty) (goes_on _ _ _ k before bytes played line at event made more text) = absurd (omega (arith, none, more, same))
  plays_one n m w v b c same (goes_on _ _ _ k before bytes played line at event made more text) (begins _ _ _ none start empty) = absurd (omega (arith, none, more, same))
  plays_one n m w v b c same (goes_on _ _ _ k before bytes played line at event made more text) (goes_on _ _ _ l other others replayed again there told remade further texts) =
      let count : k ≡ l = omega (arith, same, more, further) in
      let earlier = plays_one k l before other bytes others count played replayed in
      let one_line : line ≡ again = let here = sym at ∙ ap (slice_get lines) count ∙ there in cc in
      let one_step : stepped event w ≡ stepped told v = sym made ∙ ap (λ u. next methods u (choice_of methods line)) earlier.0 ∙ ap (λ x. next methods other (choice_of methods x)) one_line ∙ remade in
      let one_event : event ≡ told = cc in
      let one_world : w ≡ v = cc in
      let shown = λ (i : ℕ) (bs : List ℕ) (x : Line) (u z : WorldState) (e : Option Event). bs ++ step_text (suc i) x (stands_at methods u (thread_of x)) e ++ walks_text h z.heap (keys_of lines) in (
        one_world,
        text
            ∙ ap (λ i. shown i bytes line before w event) count
            ∙ ap (λ bs. shown l bs line before w event) earlier.1
            ∙ ap (λ x. shown l others x before w event) one_line
            ∙ ap (λ u. shown l others again u w event) earlier.0
            ∙ ap (λ z. shown l others again other z event) one_world
            ∙ ap (λ e. shown l others again other v e) one_event
            ∙ sym texts,
      )

  -- ---- where it stops

  -- no line leads on from here
  pub record StopsAt (n : ℕ) (w : WorldState) (bytes : List ℕ) : Type 0 where
    pub plays : Plays h methods lines n w bytes
    pub stuck : (line : Line) → slice_get lines n ≡ Some line → (event : Option Event) (after : WorldState) → next methods w (choice_of methods line) ≡ stepped event after → ⊥

  -- what is played beyond a place led on from there
  pub led_on : (m n : ℕ) (w v : WorldState) (b c : List ℕ) → Plays h methods lines m w b → StopsAt n v c → n < m → ⊥
  led_on m n w v b c (begins _ _ _ none start empty) stops less = absurd (omega (arith, none, less))
  led_on m n w v b c (goes_on _ _ _ k before bytes played line at event made more text) stops less =
      elim (cases_lt n k) [
        | inl below ↦ led_on k n before v bytes c played stops below
        | inr last ↦
            let here : n ≡ k = omega (arith, last, less, more) in
            let same = plays_one n k v before c bytes here stops.plays played in
            stops.stuck line (ap (slice_get lines) here ∙ at) event w (ap (λ u. next methods u (choice_of methods line)) same.0 ∙ made)
      ]

  pub stops_once : (m n : ℕ) (w v : WorldState) (b c : List ℕ) → StopsAt m w b → StopsAt n v c → (m ≡ n) × (w ≡ v) × (b ≡ c)
  stops_once m n w v b c one other =
      elim (cases_lt m n) [
        | inl less ↦ absurd (led_on n m v w c b other.plays one less)
        | inr no_less ↦
            elim (cases_lt n m) [
              | inl less ↦ absurd (led_on m n w v b c one.plays other less)
              | inr no_more ↦
                  let here : m ≡ n = omega (arith, no_less, no_more) in
                  let same = plays_one m n w v b c here one.plays other.plays in
                  (here, same.0, same.1)
            ]
      ]

  pub end_stops : (w : WorldState) (b : List ℕ) → Plays h methods lines (length lines) w b → StopsAt (length lines) w b
  end_stops w b plays = record { plays = plays; stuck = λ line at event after made. let past = slice_get_past lines (length lines) (omega arith) in absurd (cc) }

  pub null_stops : (n : ℕ) (w : WorldState) (b : List ℕ) (line : Line) → Plays h methods lines n w b → slice_get lines n ≡ Some line → next methods w (choice_of methods line) ≡ null_read → StopsAt n w b
  null_stops n w b line plays at null =
      record {
        plays = plays;
        stuck = λ other there event after made.
            let one : line ≡ other = let e = sym at ∙ there in cc in
            let both : null_read ≡ stepped event after = sym null ∙ ap (λ x. next methods w (choice_of methods x)) one ∙ made in
            absurd (cc);
      }

  pub refused_stops : (n : ℕ) (w : WorldState) (b : List ℕ) (line : Line) → Plays h methods lines n w b → slice_get lines n ≡ Some line → next methods w (choice_of methods line) ≡ refused → StopsAt n w b
  refused_stops n w b line plays at none =
      record {
        plays = plays;
        stuck = λ other there event after made.
            let one : line ≡ other = let e = sym at ∙ there in cc in
            let both : refused ≡ stepped event after = sym none ∙ ap (λ x. next methods w (choice_of methods x)) one ∙ made in
            absurd (cc);
      }

  -- ---- one trace, or one bad step

  pub one_trace : (a b : List ℕ) → IsTrace h methods lines a → IsTrace h methods lines b → a ≡ b
  one_trace a b (to_its_end w plays) (to_its_end v replays) = (stops_once _ _ w v a b (end_stops w a plays) (end_stops v b replays)).2
  one_trace a b (to_its_end w plays) (to_null n v shown replays line at null text) =
      let same = (stops_once _ n w v a shown (end_stops w a plays) (null_stops n v shown line replays at null)).0 in
      let past = slice_get_past lines n (omega (arith, same)) in
      absurd (cc)
  one_trace a b (to_null n v shown replays line at null text) (to_its_end w plays) =
      let same = (stops_once _ n w v b shown (end_stops w b plays) (null_stops n v shown line replays at null)).0 in
      let past = slice_get_past lines n (omega (arith, same)) in
      absurd (cc)
  one_trace a b (to_null n v shown plays line at null text) (to_null m w other replays again there null_too texts) =
      let same = stops_once n m v w shown other (null_stops n v shown line plays at null) (null_stops m w other again replays there null_too) in
      let one : line ≡ again = let e = sym at ∙ ap (slice_get lines) same.0 ∙ there in cc in
      let ends = λ (i : ℕ) (bs : List ℕ) (x : Line) (u : WorldState). bs ++ null_text (suc i) x (stands_at methods u (thread_of x)) in
      text
      ∙ ap (λ i. ends i shown line v) same.0
      ∙ ap (λ bs. ends m bs line v) same.2
      ∙ ap (λ x. ends m other x v) one
      ∙ ap (λ u. ends m other again u) same.1
      ∙ sym texts

  pub one_bad_step : (i j : ℕ) → IsBadStep h methods lines i → IsBadStep h methods lines j → i ≡ j
  one_bad_step i j (refused_after n w b plays line at none is) (refused_after m v c replays again there none_too is_too) =
      let same = stops_once n m w v b c (refused_stops n w b line plays at none) (refused_stops m v c again replays there none_too) in
      omega (arith, same.0, is, is_too)

  pub not_both : (a : List ℕ) (i : ℕ) → IsTrace h methods lines a → IsBadStep h methods lines i → ⊥
  not_both a i (to_its_end w plays) (refused_after m v c replays line at none is) =
      let same = (stops_once _ m w v a c (end_stops w a plays) (refused_stops m v c line replays at none)).0 in
      let past = slice_get_past lines m (omega (arith, same)) in
      absurd (cc)
  not_both a i (to_null n w shown plays line at null text) (refused_after m v c replays again there none is) =
      let same = stops_once n m w v shown c (null_stops n w shown line plays at null) (refused_stops m v c again replays there none) in
      let one : line ≡ again = let e = sym at ∙ ap (slice_get lines) same.0 ∙ there in cc in
      let both : null_read ≡ refused = sym null ∙ ap (λ u. next methods u (choice_of methods line)) same.1 ∙ ap (λ x. next methods v (choice_of methods x)) one ∙ none in
      absurd (cc)

  -- ---- the steps of a trace

  pub play_on : (m n k : ℕ) (before after : WorldState) (b c : List ℕ) (keys : List ℤ) → Plays h methods lines n before b → (line : Line) → slice_get lines n ≡ Some line → (event : Option Event) → next methods before (choice_of methods line) ≡ stepped event after → m ≡ suc n → k ≡ suc n → keys ≡ keys_of lines
      → c ≡ b ++ step_text k line (stands_at methods before (thread_of line)) event ++ walks_text h after.heap keys → Plays h methods lines m after c
  play_on m n k before after b c keys played line at event made more count known text =
      goes_on m after c n before b played line at event made more
      (text
      ∙ ap (λ i. b ++ step_text i line (stands_at methods before (thread_of line)) event ++ walks_text h after.heap keys) count
      ∙ ap (λ ks. b ++ step_text (suc n) line (stands_at methods before (thread_of line)) event ++ walks_text h after.heap ks) known)

  pub null_trace : (n k : ℕ) (w : WorldState) (b c : List ℕ) → Plays h methods lines n w b → (line : Line) → slice_get lines n ≡ Some line → next methods w (choice_of methods line) ≡ null_read → k ≡ suc n → c ≡ b ++ null_text k line (stands_at methods w (thread_of line)) → IsTrace h methods lines c
  null_trace n k w b c played line at null count text =
      to_null n w b played line at null (text ∙ ap (λ i. b ++ null_text i line (stands_at methods w (thread_of line))) count)

  pub end_trace : (n : ℕ) (w : WorldState) (b : List ℕ) → Plays h methods lines n w b → n ≡ length lines → IsTrace h methods lines b
  end_trace n w b played all = to_its_end w (subst (λ (i : ℕ). Plays h methods lines i w b) all played)

  pub bad_step : (n k : ℕ) (w : WorldState) (b : List ℕ) → Plays h methods lines n w b → (line : Line) → slice_get lines n ≡ Some line → next methods w (choice_of methods line) ≡ refused → k ≡ suc n → IsBadStep h methods lines k
  bad_step n k w b played line at none count = refused_after n w b played line at none count
