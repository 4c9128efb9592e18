mod SpanLemmas
mod BlockLemmas
mod DifferLemmas
