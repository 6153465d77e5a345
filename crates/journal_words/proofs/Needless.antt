-- What is left of a journal where later records are known: record by record it comes to Small.
use Rattle.std.proofs.Common.{◌≡◌, ◌||◌, ◌==◌, ◌++◌, Bool, true, false, List, [], ◌∷◌, refl, sym, ap, ◌∙◌, append_assoc, arith, if◌then◌else◌}
use Rattle.std.proofs.Math.Bool.{or-false}
use Rattle.std.proofs.lemmas.Bool.Decides.{nat_tests}
use Rattle.score_base.specs.declared.ids.TxId.{TxId}
use Rattle.score_base.specs.declared.records.Record.{Record}
use Rattle.score_base.specs.declared.records.Record.TheVariants as record'
use Rattle.journal_words.specs.Small.{without_ceilings, without_decided, small, is_needless, without_needless, is_ceiling, closes}
use Rattle.journal_words.proofs.AlikeWords.{has_none, none-small}

same_goes : (b c : Bool) (x : Record) (r s : List Record) → b ≡ c → r ≡ s →
    (if b then r else x ∷ r) ≡ (if c then s else x ∷ s)
same_goes true c x r s e f = rw (sym e) f
same_goes false c x r s e f = rw (sym e) (ap (λ q. x ∷ q) f)

-- what is closed behind counts alone
pub same-needless : (b : Bool) (f g : TxId → Bool) → ((t : TxId) → f t ≡ g t) → (r : List Record) →
    without_needless b f r ≡ without_needless b g r
same-needless b f g e [] = refl
same-needless b f g e (record'.Decided t c parts ∷ r) =
    same_goes (f t) (g t) (record'.Decided t c parts) _ _ (e t) (same-needless b f g e r)
same-needless b f g e (record'.Closed t ∷ r) = same-needless b f g e r
same-needless true f g e (record'.Ceiling c ∷ r) = same-needless true f g e r
same-needless false f g e (record'.Ceiling c ∷ r) = ap (λ s. record'.Ceiling c ∷ s) (same-needless false f g e r)
same-needless b f g e (record'.Prepared t home parts sid p reads writes ∷ r) =
    ap (λ s. record'.Prepared t home parts sid p reads writes ∷ s) (same-needless b f g e r)
same-needless b f g e (record'.Ended t o ∷ r) = ap (λ s. record'.Ended t o ∷ s) (same-needless b f g e r)

-- a Ceiling behind makes each needless
ceiling-behind : (b : Bool) (f : TxId → Bool) (r : List Record) →
    without_needless b f (without_ceilings r) ≡ without_needless true f r
ceiling-behind b f [] = refl
ceiling-behind b f (record'.Ceiling c ∷ r) = ceiling-behind b f r
ceiling-behind b f (record'.Closed t ∷ r) = ceiling-behind b f r
ceiling-behind b f (record'.Decided t c parts ∷ r) =
    same_goes (f t) (f t) (record'.Decided t c parts) _ _ refl (ceiling-behind b f r)
ceiling-behind b f (record'.Prepared t home parts sid p reads writes ∷ r) =
    ap (λ s. record'.Prepared t home parts sid p reads writes ∷ s) (ceiling-behind b f r)
ceiling-behind b f (record'.Ended t o ∷ r) = ap (λ s. record'.Ended t o ∷ s) (ceiling-behind b f r)

-- a Closed behind makes each Decided of its transaction needless
closed-behind : (b : Bool) (f : TxId → Bool) (t : TxId) (r : List Record) →
    without_needless b f (without_decided t r) ≡ without_needless b (λ u. f u || (t == u)) r
closed-behind b f t [] = refl
closed-behind true f t (record'.Ceiling c ∷ r) = closed-behind true f t r
closed-behind false f t (record'.Ceiling c ∷ r) = ap (λ s. record'.Ceiling c ∷ s) (closed-behind false f t r)
closed-behind b f t (record'.Closed u ∷ r) = closed-behind b f t r
closed-behind b f t (record'.Decided u c parts ∷ r) =
    let rest = closed-behind b f t r in
    grind (arith, nat_tests, rest)
closed-behind b f t (record'.Prepared u home parts sid p reads writes ∷ r) =
    ap (λ s. record'.Prepared u home parts sid p reads writes ∷ s) (closed-behind b f t r)
closed-behind b f t (record'.Ended u o ∷ r) = ap (λ s. record'.Ended u o ∷ s) (closed-behind b f t r)

same_flag : (b : Bool) (f : TxId → Bool) (r : List Record) → without_needless b f r ≡ without_needless (b || false) f r
same_flag b f r = ap (λ c. without_needless c f r) (sym (or-false b))

-- a record that is no Ceiling and no Closed makes nothing needless
unmoved : (b : Bool) (f : TxId → Bool) (r : List Record) →
    without_needless b f r ≡ without_needless (b || false) (λ u. f u || false) r
unmoved b f r =
    same_flag b f r ∙ same-needless (b || false) f (λ u. f u || false) (λ u. sym (or-false (f u))) r

-- one record more is looked at
pub needless-more : (b : Bool) (f : TxId → Bool) (x : Record) (r : List Record) →
    without_needless b f (small (x ∷ r))
    ≡ (if is_needless b f x then without_needless (b || is_ceiling x) (λ u. f u || closes u x) (small r)
    else x ∷ without_needless (b || is_ceiling x) (λ u. f u || closes u x) (small r))
needless-more true f (record'.Ceiling c) r =
    ceiling-behind true f (small r) ∙ same-needless true f (λ u. f u || false) (λ u. sym (or-false (f u))) (small r)
needless-more false f (record'.Ceiling c) r =
    ap (λ s. record'.Ceiling c ∷ s) (ceiling-behind false f (small r)
    ∙ same-needless true f (λ u. f u || false) (λ u. sym (or-false (f u))) (small r))
needless-more b f (record'.Closed t) r = closed-behind b f t (small r) ∙ same_flag b (λ u. f u || (t == u)) (small r)
needless-more b f (record'.Decided t c parts) r =
    same_goes (f t) (f t) (record'.Decided t c parts) _ _ refl (unmoved b f (small r))
needless-more b f (record'.Prepared t home parts sid p reads writes) r =
    ap (λ s. record'.Prepared t home parts sid p reads writes ∷ s) (unmoved b f (small r))
needless-more b f (record'.Ended t o) r = ap (λ s. record'.Ended t o ∷ s) (unmoved b f (small r))

-- at the start nothing stands behind
nothing-behind : (f : TxId → Bool) → ((t : TxId) → f t ≡ false) → (r : List Record) → has_none r ≡ true →
    without_needless false f r ≡ r
nothing-behind f none [] h = refl
nothing-behind f none (record'.Decided t c parts ∷ r) h =
    same_goes (f t) false (record'.Decided t c parts) _ _ (none t) (nothing-behind f none r h)
nothing-behind f none (record'.Closed t ∷ r) h = absurd (grind (arith, h))
nothing-behind f none (record'.Ceiling c ∷ r) h = ap (λ s. record'.Ceiling c ∷ s) (nothing-behind f none r h)
nothing-behind f none (record'.Prepared t home parts sid p reads writes ∷ r) h =
    ap (λ s. record'.Prepared t home parts sid p reads writes ∷ s) (nothing-behind f none r h)
nothing-behind f none (record'.Ended t o ∷ r) h = ap (λ s. record'.Ended t o ∷ s) (nothing-behind f none r h)

pub nothing-later : (f : TxId → Bool) → ((t : TxId) → f t ≡ false) → (r : List Record) →
    without_needless false f (small r) ≡ small r
nothing-later f none r = nothing-behind f none (small r) (none-small r)

-- what is left of a list in which the record was looked at, where it goes, and where it stays
module _ (b b' : Bool) (f f' : TxId → Bool) (x : Record) (flag : b' ≡ (b || is_ceiling x))
    (closed : (u : TxId) → f' u ≡ (f u || closes u x)) (r : List Record) where
  left : without_needless b' f' (small r) ≡ without_needless (b || is_ceiling x) (λ u. f u || closes u x) (small r)
  left =
      ap (λ c. without_needless c f' (small r)) flag
      ∙ same-needless (b || is_ceiling x) f' (λ u. f u || closes u x) closed (small r)

  pub needless-goes : (kept : List Record) → is_needless b f x ≡ true →
      kept ++ without_needless b' f' (small r) ≡ kept ++ without_needless b f (small (x ∷ r))
  needless-goes kept e = ap (λ s. kept ++ s) (left ∙ sym (needless-more b f x r ∙ rw e refl))

  pub other-stays : (kept : List Record) → is_needless b f x ≡ false →
      (kept ++ x ∷ []) ++ without_needless b' f' (small r) ≡ kept ++ without_needless b f (small (x ∷ r))
  other-stays kept e =
      append_assoc kept (x ∷ []) (without_needless b' f' (small r))
      ∙ ap (λ s. kept ++ s) (ap (λ s. x ∷ s) left ∙ sym (needless-more b f x r ∙ rw e refl))
