use Rattle.grid_store.proofs.laws.law_home_room.Goals as goal

pub returns-clause-decided : goal.returns-clause-decided
returns-clause-decided c = λ t u f g parts others room h. (record { one = h.one; locks = h.locks; chains = h.chains; writes = h.writes }, record { one = h.one; locks = h.locks; chains = h.chains; writes = h.writes })

pub returns-clause-closed : goal.returns-clause-closed
returns-clause-closed c = λ t u g others room h. (record { one = h.one; locks = h.locks; chains = h.chains; writes = h.writes }, record { one = h.one; locks = h.locks; chains = h.chains; writes = h.writes })
