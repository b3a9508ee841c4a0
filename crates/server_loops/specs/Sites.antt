-- Where a desk, a bench or a chart stands.

-- where the old value stood the new one stands too
abbrev pub Stays : {T S : Type 0} → (T → S → Type 0) → T → T → Type 0
Stays {T} {S} is_at old new = (site : S) → is_at old site → is_at new site
