mod Demanded
mod Free
mod SpanNumbers
mod SpanOrder
mod Tabled
