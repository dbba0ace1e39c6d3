-- What a handler does not know, and what is not for the caller's world, in the paper's numbers: such a call is refused with -1.
use Rattle.std.specs.Prelude.{◌≡◌, ◌⊎◌, ℕ, ◌<◌}
use Rattle.std.proofs.Common.{inl, inr, arith}
use borrow.Author.Tests.{lt-ltb, le-ltb, ne_eqb}
use Rattle.rules.specs.Choice.{pick}
use Rattle.rules.specs.Tests.{sieve}
use Rattle.rules.specs.declared.Reason.TheVariants as Reason
use Rattle.judgements.specs.Judge.{HandlerSight, denied, one_of, row_in, by_row, by_number, by_handler, architecture, board, standard, trusted, starting, telling_state, going_off, versioning, power_featuring, transferring, realm_call, handing_to_realm, handing, finishing}
use Rattle.judgements.specs.Names.{version, features, power_version, core_off, core_start, core_start_wide, core_state, core_state_wide, power_features, granule_to_realm, granule_to_normal, realm_first, realm_last, realm_finish, take_pages, give_pages, owns_page, map_pages, unmap_pages, where_leads, count_on, secure_finish}
use Rattle.judgements.specs.declared.Args.{Args}
use Rattle.judgements.specs.Refused.{Barred, Unknown, by_architecture, by_board, by_standard, from_realm, from_secure, of_granules, of_pages, of_power, to_realm, to_secure}

module _ (s : HandlerSight) (a : Args) where
  below_realm : (k : ℕ) → (k < 0xC4000150) ⊎ (0xC400018F < k) → realm_call s.caller k ≡ denied Reason.Unserved
  unfolding realm_call handing_to_realm sieve pick
  below_realm k (inl h) = rw (ne_eqb k realm_finish (λ z. omega arith), lt-ltb k realm_first h)
  below_realm k (inr h) = rw (ne_eqb k realm_finish (λ z. omega arith), le-ltb k realm_first (omega arith), lt-ltb realm_last k (omega arith))

  pub unknown_denied : {h k : ℕ} → Unknown h k → by_handler s a k h ≡ denied Reason.Unserved
  unfolding row_in by_row by_number architecture board standard pick
  unknown_denied (by_architecture k d) = rw (ne_eqb k version d.0, ne_eqb k features d.1.0)
  unknown_denied (by_board k d) =
      rw (ne_eqb k take_pages d.0, ne_eqb k give_pages d.1.0, ne_eqb k owns_page d.1.1.0, ne_eqb k map_pages d.1.1.1.0, ne_eqb k unmap_pages d.1.1.1.1.0, ne_eqb k where_leads d.1.1.1.1.1.0, ne_eqb k count_on d.1.1.1.1.1.1.0)
  unknown_denied (by_standard k d e) =
      rw (ne_eqb k granule_to_realm d.1.1.1.1.1.1.1.0, ne_eqb k granule_to_normal d.1.1.1.1.1.1.1.1.0, ne_eqb k power_version d.0, ne_eqb k core_off d.1.0, ne_eqb k core_start d.1.1.0, ne_eqb k core_start_wide d.1.1.1.0, ne_eqb k core_state d.1.1.1.1.0, ne_eqb k core_state_wide d.1.1.1.1.1.0, ne_eqb k power_features d.1.1.1.1.1.1.0)
      (below_realm k e)

  pub barred_denied : {h k w : ℕ} → Barred h k w → s.caller.world ≡ w → by_handler s a k h ≡ denied Reason.Unserved
  unfolding row_in by_row by_number standard trusted transferring starting telling_state going_off versioning power_featuring realm_call handing_to_realm handing finishing one_of sieve pick
  barred_denied (of_power k w (inl e) d) is = rw (e, is, ne_eqb w 2 d)
  barred_denied (of_power k w (inr (inl e)) d) is = rw (e, is, ne_eqb w 2 d)
  barred_denied (of_power k w (inr (inr (inl e))) d) is = rw (e, is, ne_eqb w 2 d)
  barred_denied (of_power k w (inr (inr (inr (inl e)))) d) is = rw (e, is, ne_eqb w 2 d)
  barred_denied (of_power k w (inr (inr (inr (inr (inl e))))) d) is = rw (e, is, ne_eqb w 2 d)
  barred_denied (of_power k w (inr (inr (inr (inr (inr (inl e)))))) d) is = rw (e, is, ne_eqb w 2 d)
  barred_denied (of_power k w (inr (inr (inr (inr (inr (inr (inl e))))))) d) is = rw (e, is, ne_eqb w 2 d)
  barred_denied (of_granules k w (inl e) d) is = rw (e, is, ne_eqb w 3 d)
  barred_denied (of_granules k w (inr (inl e)) d) is = rw (e, is, ne_eqb w 3 d)
  barred_denied (of_pages k w (inl e) c d) is = rw (e, is, ne_eqb w 1 c, ne_eqb w 3 d)
  barred_denied (of_pages k w (inr (inl e)) c d) is = rw (e, is, ne_eqb w 1 c, ne_eqb w 3 d)
  barred_denied (to_realm k w g h d) is =
      rw (ne_eqb k granule_to_realm (λ z. omega arith), ne_eqb k granule_to_normal (λ z. omega arith), ne_eqb k power_version (λ z. omega arith), ne_eqb k core_off (λ z. omega arith), ne_eqb k core_start (λ z. omega arith), ne_eqb k core_start_wide (λ z. omega arith), ne_eqb k core_state (λ z. omega arith), ne_eqb k core_state_wide (λ z. omega arith), ne_eqb k power_features (λ z. omega arith), ne_eqb k realm_finish (λ z. omega arith), le-ltb k realm_first g, le-ltb realm_last k h, is, ne_eqb w 2 d)
  barred_denied (from_realm w d) is = rw (is, ne_eqb w 3 d)
  barred_denied (to_secure k w n d) is = rw (ne_eqb k secure_finish n, is, ne_eqb w 2 d)
  barred_denied (from_secure w d) is = rw (is, ne_eqb w 1 d)
  barred_denied {k = k} {w = w} (of_power _ _ (inr (inr (inr (inr (inr (inr (inr x16))))))) d) is = elim x16 [ ]
  barred_denied {k = k} {w = w} (of_granules _ _ (inr (inr x8)) d) is = elim x8 [ ]
  barred_denied {k = k} {w = w} (of_pages _ _ (inr (inr x9)) c d) is = elim x9 [ ]
